-- Why a walk didn't come to its end.
use Rattle.std.specs.Prelude.{◌≡◌, ℕ, ◌+◌, ◌≤◌, ◌^◌, List, [], ◌∷◌, length, Some, IsSome, Contains}
use Rattle.uring_walk.specs.Paths.{AreOnce}
use Rattle.uring_entry.specs.Setup.{Setup}
use Rattle.uring_entry.specs.Layout.{Sqe}
use Rattle.uring_dispatch.specs.declared.errors.ReserveError.{ReserveError}
use Rattle.uring_dispatch.specs.declared.errors.ReserveError.TheVariants as refused
use Rattle.uring_outcomes.specs.Moments.{Moment, starting, after_moves}
use Rattle.uring_outcomes.specs.CallOutcomes.{IsOver}
use Rattle.uring_outcomes.specs.Outcomes.{Ending, ending_of}
use Rattle.uring_outcomes.specs.declared.move_of_calls.Move.{Move}
use Rattle.uring_outcomes.specs.declared.fault.WalkFault.{WalkFault}
use Rattle.uring_outcomes.specs.declared.fault.WalkFault.TheVariants as fault

-- how many entries these calls have
abbrev pub entry_count : List (List Sqe) → ℕ
entry_count [] = 0
entry_count (call ∷ later) = length call + entry_count later

-- The reasons: memory was refused, so not all that may be asked for is granted; or the calls have more entries than requests have numbers, 2^63 - 1.
abbrev pub IsReason : (ℕ → Type 0) → List (List Sqe) → WalkFault → Type 0
IsReason grants calls fault.Memory = ((n : ℕ) → grants n) → ⊥
IsReason grants calls fault.Spent = 2 ^ 63 ≤ entry_count calls
IsReason grants calls fault.Paths = ⊥

-- what a walk says of a refusal of the dispatcher
abbrev pub fault_of : ReserveError → WalkFault
fault_of refused.Spent = fault.Spent
fault_of refused.NoMemory = fault.Memory

-- So many lists of moves were taken, of which each can be made and no two are the same; and one is left that can be made.
pub record TookPaths (g : Setup) (calls : List (List Sqe)) (most : ℕ) : Type 0 where
  pub paths : List (List Move)
  pub many : length paths ≡ most
  pub differ : AreOnce paths
  pub can : (path : List Move) → Contains paths path → IsSome (after_moves (starting g calls) path)
  pub left : List Move
  pub can_left : IsSome (after_moves (starting g calls) left)
  pub untaken : Contains paths left → ⊥

-- A walk stopped with these endings: it had taken so many lists of moves, and each ending to which one of them leads is among these.
pub record StoppedWith (g : Setup) (calls : List (List Sqe)) (most : ℕ) (found : List Ending) : Type 0 where
  pub took : TookPaths g calls most
  pub noted : (path : List Move) (last : Moment) → Contains took.paths path
      → after_moves (starting g calls) path ≡ Some last → IsOver last
      → Contains found (ending_of last)
