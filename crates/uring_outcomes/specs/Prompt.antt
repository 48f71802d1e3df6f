-- Prompt moves: whatever starts is finished next, unless a cancel names it. They lead wherever moves lead.
use Rattle.std.specs.Prelude.{◌≡◌, ℕ, Bool, true, false, List, [], ◌∷◌, All, Some}
use Rattle.uring_entry.specs.Setup.{Setup}
use Rattle.uring_entry.specs.Layout.{Sqe, Cqe, addr_of, user_data_of}
use Rattle.uring_entry.specs.Preparation.{is_cancel}
use Rattle.uring_entry.specs.Requests.{Requests, entry_of, is_running}
use Rattle.uring_files.specs.Contents.{FileContents}
use Rattle.uring_outcomes.specs.Moments.{Moment, starting, moved}
use Rattle.uring_outcomes.specs.CallOutcomes.{LeadsTo}
use Rattle.uring_outcomes.specs.declared.move_of_calls.Move.{Move}
use Rattle.uring_outcomes.specs.declared.move_of_calls.Move.TheVariants as move

-- whether a request has a user data that is named
abbrev pub is_named : (ℕ → Bool) → Requests → ℕ → Bool
is_named named r n = named (user_data_of (entry_of r n))

-- while a request runs whose user data isn't named, the move is its finish
abbrev pub IsPrompt : (ℕ → Bool) → Moment → Move → Type 0
IsPrompt named m x = (n : ℕ) → is_running m.requests n ≡ true
    → is_named named m.requests n ≡ false → x ≡ move.Finish n

-- each of these moves is, where it is made
abbrev pub ArePrompt : (ℕ → Bool) → Moment → List Move → Type 0
ArePrompt named m [] = Unit {0}
ArePrompt named m (first ∷ later) =
    IsPrompt named m first × ((next : Moment) → moved m first ≡ Some next → ArePrompt named next later)

-- the user data that each cancel among these entries names is named
abbrev pub NamesAll : (ℕ → Bool) → List Sqe → Type 0
NamesAll named entries = All (λ e. is_cancel e ≡ true → named (addr_of e) ≡ true) entries

-- and among those of these calls
abbrev pub AreNamed : (ℕ → Bool) → List (List Sqe) → Type 0
AreNamed named calls = All (NamesAll named) calls

-- Only a cancel that names it tells whether a request runs that could end already: nothing is lost if every other that starts is finished next.
abbrev pub PromptMovesLead : Type 0
PromptMovesLead =
    (g : Setup) (calls : List (List Sqe)) (named : ℕ → Bool) (posted : List Cqe) (files : List FileContents)
    → AreNamed named calls → LeadsTo (starting g calls) posted files
    → (to : LeadsTo (starting g calls) posted files) × ArePrompt named (starting g calls) to.moves
