-- What calls may come to, as a list.
use Rattle.std.specs.Prelude.{◌≡◌, ◌↔◌, Contains, AllPairs, List}
use Rattle.uring_entry.specs.Setup.{Setup}
use Rattle.uring_entry.specs.Layout.{Sqe, Cqe}
use Rattle.uring_files.specs.Contents.{FileContents}
use Rattle.uring_outcomes.specs.Moments.{Moment, starting}
use Rattle.uring_outcomes.specs.CallOutcomes.{LeadsTo}

-- What calls came to: the completions posted, in order, and the files that are left.
pub record Ending : Type 0 where
  pub posted : List Cqe
  pub files : List FileContents

-- what calls came to at this moment
abbrev pub ending_of : Moment → Ending
ending_of m = record { posted = m.posted; files = m.files }

-- some moves lead these calls to this
abbrev pub CanEnd : Setup → List (List Sqe) → Ending → Type 0
CanEnd g calls e = LeadsTo (starting g calls) e.posted e.files

-- each is what some moves lead to
abbrev pub AreEndings : Setup → List (List Sqe) → List Ending → Type 0
AreEndings g calls found = (e : Ending) → Contains found e → CanEnd g calls e

-- The list has what moves lead to, and nothing else.
abbrev pub AreAllEndings : Setup → List (List Sqe) → List Ending → Type 0
AreAllEndings g calls found = (e : Ending) → Contains found e ↔ CanEnd g calls e

-- none stands in the list twice
abbrev pub AreOnce : List Ending → Type 0
AreOnce found = AllPairs (λ a b. a ≡ b → ⊥) found
