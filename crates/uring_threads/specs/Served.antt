-- What a turn does, and what it pulls and delivers at least. Our own rule.
use Rattle.std.specs.Prelude.{◌≡◌, ◌<◌, ◌≤◌, ◌⊎◌, ℕ, false, None, length, count_by, Result, IfOk, OnErr, IsOk}
use Rattle.uring_entry.specs.Completions.{Completions}
use Rattle.uring_entry.specs.Submission.{dropped}
use Rattle.uring_ports.specs.Dropped.{with_word}
use Rattle.uring_ports.specs.Seen.{SeenCalls, FindsNoCall, HasLooked}
use Rattle.uring_threads.specs.EventRows.{RecordsTurn}
use Rattle.uring_threads.specs.Kept.{now, next_in}
use Rattle.uring_threads.specs.Kernel.{Kernel, IsKernel}
use Rattle.uring_threads.specs.Tallies.{Tally, Adds, TakesFewResults, starts_request}
use Rattle.uring_threads.specs.Turns.{Counts, awaits_memory}
use Rattle.uring_threads.specs.declared.intake.Intake.{Intake}
use Rattle.uring_threads.specs.declared.intake.Intake.TheVariants as intake
use Rattle.uring_threads.specs.declared.turns.Turn.{Turn}
use Rattle.uring_workers.specs.WorkLanes.{AreSameLanes, SomeIsFull}

-- So many items were pulled, after which the intake stands like this. If none was, and it is ready for the next call, the port has looked, and shows no whole call and no close mark.
abbrev pub PullsMost : Intake → ℕ → (before after : SeenCalls) → Type 0
PullsMost i items before after = i ≡ intake.Ready → items ≡ 0 → FindsNoCall before after

-- So many were delivered, at most as many as a ring of this size holds: all that waited, or fewer only if the port has no more room, or if the ring holds no more.
pub record DeliversMost (l : Completions) (free size delivered : ℕ) : Type 0 where
  pub few : delivered ≤ size
  pub most : (length l.reaped ≡ length l.posted) ⊎ (free ≡ 0) ⊎ (delivered ≡ size)

-- What a turn has done that returned Ok.
pub record HasServed (old new : Kernel) (turn : Turn) : Type 0 where
  -- its numbers are those of the events that it appended
  pub counts : Counts old.kept new.kept turn
  -- no call waits for memory
  pub begun : awaits_memory new.intake ≡ false
  -- what waited was pulled: if the intake is ready and no item was pulled, the port has looked, and shows no whole call and no close mark
  pub pulls : PullsMost new.intake turn.popped old.saw_calls new.saw_calls
  -- no request is left that can be issued, unless some worker's lane shows no room
  pub none_left : (next_in new.kept ≡ None) ⊎ SomeIsFull new.lanes
  -- as long as no more was posted than the completion ring holds, all of it is reaped
  pub all : length (now new.kept).completions.posted ≤ old.kept.setup.cq
      → length new.reaped ≡ length (now new.kept).completions.posted
  -- and else as many as the port showed room for, or as the ring holds
  pub most : DeliversMost (now new.kept).completions new.free old.kept.setup.cq turn.delivered
  -- it has looked how much room there is
  pub looked : HasLooked old.room_looks new.room_looks
  -- the last dropped word is the trace's
  pub stored : new.dropped ≡ with_word old.dropped (dropped (now new.kept).submission)

-- What a turn does, with this answer.
pub record HasTurned {E : Type 0} (old new : Kernel) (answer : Result Turn E) : Type 0 where
  -- what it has done that returned Ok
  pub served : IfOk answer (HasServed old new)
  -- as long as fewer than 64 requests were started, none is left that can be issued
  pub next : IfOk answer
      (λ turn. count_by starts_request new.kept.trace < 64 → next_in new.kept ≡ None)
  -- if memory was refused too it appended events, and none of them is refused
  pub err : OnErr answer ((t : Tally) × Adds old.kept new.kept t)
  -- its events are rows of steps, one after the other, also if memory was refused
  pub rows : RecordsTurn old.kept new.kept old.intake old.pulled new.pulled answer
  -- of each worker at most 64 results are taken in, also if memory was refused
  pub few_results : TakesFewResults (length old.lanes) old.kept new.kept
  -- a turn that returned an error stored no dropped word
  pub not_stored : OnErr answer (new.dropped ≡ old.dropped)

-- Glue. A turn of the parts of an end: it goes on as the same end, and where this holds, the turn returns Ok.
pub record Turns {E : Type 0} (granted : Type 0) (old new : Kernel) (answer : Result Turn E) : Type 0 where
  pub is : IsKernel new
  pub turned : HasTurned old new answer
  pub setup : new.kept.setup ≡ old.kept.setup
  pub lanes : AreSameLanes old.lanes new.lanes
  pub pairing : new.pairing ≡ old.pairing
  pub sizes : new.sizes ≡ old.sizes
  pub ok : granted → IsOk answer
