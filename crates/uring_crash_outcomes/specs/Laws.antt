-- After lawful histories of the manual pages' rules and after moves, a power failure may show the same of calls.
use Rattle.std.specs.Prelude.{◌≡◌, ℕ, List, map}
use Rattle.uring_entry.specs.Setup.{Setup}
use Rattle.uring_entry.specs.Submission.{Published}
use Rattle.uring_core.specs.Histories.{world}
use Rattle.uring_outcomes.specs.CallOutcomes.{entries_in}
use Rattle.uring_outcomes.specs.MoveLaws.{AreTakenWhole}
use Rattle.uring_crash_outcomes.specs.Shown.{Crash, MayShow}
use Rattle.uring_crash_outcomes.specs.Moves.{CanShow}

-- what it shows after a history, it shows after moves
abbrev pub HistoriesShowMoves : ℕ → Setup → Type 0
HistoriesShowMoves unit g = (calls : List (List Published)) (c : Crash) → MayShow unit g calls c
    → CanShow unit g (map entries_in calls) c

-- it shows this after a history in which the application has reaped all that was posted
pub record IsSeen (unit : ℕ) (g : Setup) (calls : List (List Published)) (c : Crash) : Type 0 where
  pub shows : MayShow unit g calls c
  pub reaped : (world g shows.history).completions.reaped ≡ c.posted

-- What it shows after moves, it shows after such a history, if the ring takes each call in whole.
abbrev pub MovesShowHistories : ℕ → Setup → Type 0
MovesShowHistories unit g = (calls : List (List Published)) (c : Crash) → AreTakenWhole g calls
    → CanShow unit g (map entries_in calls) c → IsSeen unit g calls c
