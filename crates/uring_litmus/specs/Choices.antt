-- The outcome of a line of the list. Our own rule.
use Rattle.std.specs.Prelude.{◌≡◌, ◌⊎◌, ◌<◌, ◌-◌, ℕ, Bool, List, length, Contains, Option, Some, Result, Ok, Err, slice_get}
use Rattle.uring_entry.specs.Setup.{Setup}
use Rattle.uring_outcomes.specs.Outcomes.{Ending}
use Rattle.uring_litmus.specs.declared.form.Form.{Form}
use Rattle.uring_litmus.specs.declared.judging.Chosen.{Chosen}
use Rattle.uring_litmus.specs.declared.judging.Chosen.TheVariants as chosen
use Rattle.uring_litmus.specs.Lines.{AreLinesOf, IsLineOf, IsSortedOnce, ShowAll}
use Rattle.uring_litmus.specs.Listings.{Finds}

-- an outcome among these that the line of this number shows, counted from 1
pub record IsOfLine (form : Form) (endings : List Ending) (lines : List (List ℕ)) (number : ℕ) (e : Ending) : Type 0 where
  pub counted : 0 < number
  pub line : List ℕ
  pub at : slice_get lines (number - 1) ≡ Some line
  pub there : Contains endings e
  pub shown : IsLineOf form e line

-- there is no line of this number, but so many
pub record HasNoLine (lines : List (List ℕ)) (number count : ℕ) : Type 0 where
  pub many : length lines ≡ count
  pub past : (number ≡ 0) ⊎ (count < number)

-- which outcome a number chooses, of those whose lines these are
abbrev pub IsChoice : Form → List Ending → List (List ℕ) → ℕ → Chosen → Type 0
IsChoice form endings lines number (chosen.Outcome e is_all) = IsOfLine form endings lines number e
IsChoice form endings lines number (chosen.Missing count is_all) = HasNoLine lines number count

-- whether the walk went to its end
abbrev pub is_all_of : Chosen → Bool
is_all_of (chosen.Outcome e is_all) = is_all
is_all_of (chosen.Missing count is_all) = is_all

-- Glue. How the line of a number is found.

-- it stands at this place among the lines of outcomes, or there are so many lines, each once
abbrev pub IsPlaceBy : List (List ℕ) → List (List ℕ) → ℕ → Result ℕ ℕ → Type 0
IsPlaceBy each lines number (Ok at) = (line : List ℕ) × (0 < number)
    × (slice_get lines (number - 1) ≡ Some line) × (slice_get each at ≡ Some line)
IsPlaceBy each lines number (Err count) = HasNoLine lines number count

-- each outcome has a line, and the lines are these, sorted and each once
abbrev pub IsPlaceOf : Form → List Ending → ℕ → Result ℕ ℕ → Type 0
IsPlaceOf form endings number found =
    (each : List (List ℕ)) × AreLinesOf form endings each
    × ((lines : List (List ℕ)) × IsSortedOnce each lines × IsPlaceBy each lines number found)

-- Calls were read to the end of the input, and an outcome of them was chosen: by the number of its line in the list of those that were found, which are all if it is said.
pub record Chooses (form : Form) (setup : Setup) (number : ℕ) (said : Chosen) (left_before left_after : Option (List ℕ)) : Type 0 where
  pub endings : List Ending
  pub finding : Finds setup endings (is_all_of said) left_before left_after
  pub lines : List (List ℕ)
  pub show_all : ShowAll form endings lines
  pub choice : IsChoice form endings lines number said
