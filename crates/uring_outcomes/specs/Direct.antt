-- Direct moves: a call is accepted at once if no cancel can tell, and else the moves are prompt. They lead wherever moves lead.
use Rattle.std.specs.Prelude.{◌≡◌, ℕ, Bool, false, List, [], ◌∷◌, All, Some}
use Rattle.uring_entry.specs.Setup.{Setup}
use Rattle.uring_entry.specs.Layout.{Sqe, Cqe, user_data_of}
use Rattle.uring_files.specs.Contents.{FileContents}
use Rattle.uring_outcomes.specs.Moments.{Moment, starting, moved}
use Rattle.uring_outcomes.specs.CallOutcomes.{LeadsTo}
use Rattle.uring_outcomes.specs.Prompt.{IsPrompt, AreNamed}
use Rattle.uring_outcomes.specs.declared.move_of_calls.Move.{Move}
use Rattle.uring_outcomes.specs.declared.move_of_calls.Move.TheVariants as move

-- none of these entries has a user data that is named
abbrev pub AreUnnamed : (ℕ → Bool) → List Sqe → Type 0
AreUnnamed named entries = All (λ e. named (user_data_of e) ≡ false) entries

-- a call is left, and none of the next call's entries has a user data that is named: no cancel tells whether it was accepted
pub record IsNextUnnamed (named : ℕ → Bool) (m : Moment) : Type 0 where
  pub call : List Sqe
  pub later : List (List Sqe)
  pub left : m.left ≡ call ∷ later
  pub unnamed : AreUnnamed named call

-- a move that accepts the next call, if no cancel tells whether it was accepted, and else is prompt
pub record IsDirect (named : ℕ → Bool) (m : Moment) (x : Move) : Type 0 where
  pub accepts : IsNextUnnamed named m → x ≡ move.Accept
  pub prompt : (IsNextUnnamed named m → ⊥) → IsPrompt named m x

-- each of these moves is, where it is made
abbrev pub AreDirect : (ℕ → Bool) → Moment → List Move → Type 0
AreDirect named m [] = Unit {0}
AreDirect named m (first ∷ later) =
    IsDirect named m first × ((next : Moment) → moved m first ≡ Some next → AreDirect named next later)

-- Only a cancel that names one of its entries tells whether a call was accepted that could be: nothing is lost if every other is accepted before any other move is made.
abbrev pub DirectMovesLead : Type 0
DirectMovesLead =
    (g : Setup) (calls : List (List Sqe)) (named : ℕ → Bool) (posted : List Cqe) (files : List FileContents)
    → AreNamed named calls → LeadsTo (starting g calls) posted files
    → (to : LeadsTo (starting g calls) posted files) × AreDirect named (starting g calls) to.moves
