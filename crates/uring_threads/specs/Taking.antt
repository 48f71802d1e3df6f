-- Glue. What taking in makes of the intake and of the trace.
use Rattle.std.specs.Prelude.{◌≡◌, ℕ, ◌+◌, ◌-◌, ◌<◌, ◌≤◌, true, false, List, [], ◌∷◌, ◌++◌}
use Rattle.uring_entry.specs.Setup.{Setup}
use Rattle.uring_entry.specs.Submission.{Submission}
use Rattle.uring_core.specs.StepAnswers.{is_spent}
use Rattle.uring_laws.specs.Standing.{Stands}
use Rattle.uring_threads.specs.Calls.{after_calls, calls_left, calls_row, refused_row}
use Rattle.uring_threads.specs.Kept.{Kept, now}
use Rattle.uring_threads.specs.Tallies.{Adds, Appends}
use Rattle.uring_threads.specs.Turns.{is_shut, waiting_in}
use Rattle.uring_threads.specs.declared.calls.CallMade.{CallMade}
use Rattle.uring_threads.specs.declared.calls.CallMade.TheVariants as made
use Rattle.uring_threads.specs.declared.intake.Intake.{Intake}
use Rattle.uring_threads.specs.declared.intake.Intake.TheVariants as intake

-- The trace goes on with so many items and nothing but calls and closes, and without any of these it stays.
pub record TakesIn (old new : Kept) (items : ℕ) : Type 0 where
  pub calls : ℕ
  pub closes : ℕ
  pub adds : Adds old new (record { items = items; issues = 0; finishes = 0; reaps = 0; calls = calls; closes = closes })
  pub idle : items + calls + closes ≡ 0 → new.trace ≡ old.trace

-- a call that was made took the positions of the first call that is left
abbrev pub IsFirst : Setup → Submission → Submission → ℕ → CallMade → Type 0
IsFirst g before after count (made.Taken taken) = (0 < taken) × (taken ≤ count)
    × (calls_left g before ≡ taken ∷ calls_left g after) × Stands after [] (count - taken)
IsFirst g before after count _ = Stands after [] count

-- Calls of these lengths were made of those that were left, and so many positions are.
pub record HaveMade (old new : Kept) (made : List ℕ) (rest : ℕ) : Type 0 where
  pub world : now new ≡ after_calls old.setup (now old) made
  pub calls : made ++ calls_left old.setup (now new).submission
      ≡ calls_left old.setup (now old).submission
  pub stands : Stands (now new).submission [] rest
  pub setup : new.setup ≡ old.setup

-- Calls were begun until none was left, or the next didn't open; so the intake stands then.
pub record HasBegun (old new : Kept) (i : Intake) : Type 0 where
  pub made : List ℕ
  pub have : HaveMade old new made (waiting_in i)
  pub row : Appends old new
      (calls_row made (calls_left old.setup (now new).submission)
      ++ refused_row (calls_left old.setup (now new).submission))
  pub spent : (count : ℕ) → i ≡ intake.Spent count → is_spent (now new) count ≡ true
  pub not_shut : is_shut i ≡ false
