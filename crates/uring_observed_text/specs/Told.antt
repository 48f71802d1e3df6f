-- What is told of what was seen. The form is our own rule.
use Rattle.std.specs.Prelude.{◌≡◌, ◌==◌, ◌⊎◌, ℕ, ◌+◌, Bool, true, false, List, [], ◌∷◌, ◌++◌, codes, decimal, reverse}
use Rattle.std.specs.List.{slice_split}
use Rattle.uring_entry.specs.Setup.{Setup}
use Rattle.uring_core.specs.Histories.{Event, History, IsLawfulApart}
use Rattle.uring_core.specs.declared.step.Step.{Step}
use Rattle.uring_core.specs.declared.step.Step.TheVariants as step
use Rattle.uring_text.specs.Lines.{joined}
use Rattle.uring_trace.specs.Text.{text_of}
use Rattle.uring_check.specs.SetupLines.{IsSaid, setup_text}
use Rattle.uring_check.specs.declared.setup_line.Said.{Said}
use Rattle.uring_check.specs.declared.setup_line.Said.TheVariants.{Nothing, Says, Misses}
use Rattle.uring_reconstruct.specs.Filling.{Begins, is_hidden, seen_in}
use Rattle.uring_observed_text.specs.Seen.{Shows, Fills}
use Rattle.uring_observed_text.specs.Sights.{IsBadLine, IsHiddenLine}
use Rattle.uring_observed_text.specs.declared.filling.Told.{Told}
use Rattle.uring_observed_text.specs.declared.filling.Verdict.{Verdict}
use Rattle.uring_observed_text.specs.declared.filling.Verdict.TheVariants as verdict

-- a step that can't be seen from outside, as a trace has it
abbrev pub hidden_text : Step → List ℕ
hidden_text (step.Issue n) = codes "issue " ++ decimal n
hidden_text (step.Finish n) = codes "finish " ++ decimal n
hidden_text _ = codes "flush"

abbrev pub IsLineIf : Bool → List ℕ → Event → Type 0
IsLineIf true line e = line ≡ hidden_text e.0 ++ codes " = " ++ text_of e.1
IsLineIf false line e = Shows line e

-- the line is that of the event: a step that can't be seen with its answer, or a line that shows the event
abbrev pub IsLineOf : List ℕ → Event → Type 0
IsLineOf line e = IsLineIf (is_hidden e.0) line e

-- the lines of a history, both the newest first
abbrev pub AreLinesOf : List (List ℕ) → History → Type 0
AreLinesOf [] [] = Unit {0}
AreLinesOf (line ∷ lines) (e ∷ before) = IsLineOf line e × AreLinesOf lines before
AreLinesOf _ _ = ⊥

-- the text begins with the set-up and the lines of the history, each with its end
abbrev pub Tells : Setup → History → List ℕ → List ℕ → Type 0
Tells g h text rest = (out : List (List ℕ)) × AreLinesOf out h
    × (text ≡ setup_text g ++ joined out ++ rest)

-- the lines have no history
abbrev pub HasNoFilling : Setup → List (List ℕ) → Type 0
HasNoFilling g lines = (h : History) → Fills g lines h → ⊥

-- Glue. A lawful history that shows the first ones of these steps.
abbrev pub IsFar : Setup → List Event → History → Type 0
IsFar g seen h = IsLawfulApart g h × Begins (seen_in h) seen

-- the text tells a lawful history, and after it a remark
abbrev pub TellsFar : Setup → List ℕ → Type 0
TellsFar g text = (h : History) × IsLawfulApart g h × ((rest : List ℕ) × Tells g h text (codes "# " ++ rest))

-- the line of this place isn't in the language, or can't be seen
abbrev pub IsFaulty : List (List ℕ) → ℕ → Type 0
IsFaulty lines place = IsBadLine lines place ⊎ IsHiddenLine lines place

-- the text names a line by its number from 1 on
abbrev pub Names : ℕ → List ℕ → Type 0
Names place text = (rest : List ℕ)
    × (text ≡ codes "line " ++ decimal (place + 1) ++ codes ": bad line: " ++ rest)

-- What is told of lines, the oldest first: a history that shows them; that there is none; that the search gave up; or which line is bad.
abbrev pub IsToldOf : Setup → List (List ℕ) → Verdict → List ℕ → Type 0
IsToldOf g lines verdict.Found text =
    (h : History) × Fills g (reverse lines) h × Tells g h text []
IsToldOf g lines verdict.Nothing text = HasNoFilling g (reverse lines) × TellsFar g text
IsToldOf g lines verdict.GaveUp text = TellsFar g text
IsToldOf g lines verdict.Bad text = (place : ℕ) × IsFaulty lines place × Names place text

-- what the first line says of the set-up, nothing if there is none
abbrev pub SaysFirst : List (List ℕ) → Said → Type 0
SaysFirst [] said = said ≡ Nothing
SaysFirst (first ∷ rest) said = IsSaid first said

-- the same by what the first line says of the set-up: the one that is given counts if it says none, and if it misses one it is bad
abbrev pub IsToldBy : Setup → List (List ℕ) → Said → Told → Type 0
IsToldBy given lines Nothing told = IsToldOf given lines told.verdict told.text.items
IsToldBy given lines (Says g) told = IsToldOf g lines told.verdict told.text.items
IsToldBy given lines Misses told = (told.verdict ≡ verdict.Bad) × Names 0 told.text.items

-- what stands between the line ends of bytes
abbrev pub lines_in : List ℕ → List (List ℕ)
lines_in bytes = slice_split (λ b. b == 10) bytes

abbrev pub AreAnswered : Setup → List (List ℕ) → Told → Type 0
AreAnswered given [] told = ⊥
AreAnswered given (first ∷ rest) told =
    (said : Said) × IsSaid first said × IsToldBy given (first ∷ rest) said told

-- What is told of bytes.
abbrev pub IsAnswered : Setup → List ℕ → Told → Type 0
IsAnswered given bytes told = AreAnswered given (lines_in bytes) told
