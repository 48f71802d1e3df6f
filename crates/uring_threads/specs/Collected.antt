-- Glue. Taking in the results that came back from a worker. All of it is our own rule.
use Rattle.std.specs.Prelude.{◌≡◌, ◌≢◌, ℕ, ◌<◌, ◌≤◌, true, List, [], ◌∷◌, ◌++◌, map, length, get_or, ◌+◌}
use Rattle.uring_entry.specs.Preparation.{operation_of}
use Rattle.uring_entry.specs.Requests.{entry_of, is_running}
use Rattle.uring_files.specs.Done.{Done}
use Rattle.uring_workers.specs.declared.job.Job.{Job}
use Rattle.uring_workers.specs.declared.job.JobResult.{JobResult}
use Rattle.uring_workers.specs.declared.work_lanes.WorkLanes.{WorkLanes}
use Rattle.uring_workers.specs.WorkLanes.{results_seen}
use Rattle.uring_core.specs.declared.step.Step.TheVariants as step
use Rattle.uring_threads.specs.EventRows.{Repeats}
use Rattle.uring_threads.specs.Kept.{Kept, now, history}
use Rattle.uring_threads.specs.Tallies.{most_results, results_taken_in}
use Rattle.uring_workers.specs.Work.{place_of}
use Rattle.uring_threads.specs.Dealt.{jobs_to, done_by_worker}
use Rattle.uring_threads.specs.Settled.{IsWork, finish_of}

-- The result of a request can be taken in from a worker: the request runs, and is that worker's.
pub record CanBeTaken (kept : Kept) (workers place number : ℕ) : Type 0 where
  pub runs : is_running (now kept).requests number ≡ true
  pub own : place_of workers kept.setup.files (operation_of (entry_of (now kept).requests number))
      ≡ place

-- what was sent to each worker, and taken in of each but this one, stays
pub record OthersStay (old new : Kept) (workers place : ℕ) : Type 0 where
  pub jobs : (k : ℕ)
      → jobs_to new.setup workers k (history new) ≡ jobs_to old.setup workers k (history old)
  pub results : (k : ℕ) → k ≢ place
      → done_by_worker new.setup workers k (history new)
      ≡ done_by_worker old.setup workers k (history old)

-- the next of these results can't be taken in, if there is one
abbrev pub NextStays : Kept → ℕ → ℕ → List JobResult → Type 0
NextStays kept workers place [] = Unit {0}
NextStays kept workers place (r ∷ later) = CanBeTaken kept workers place r.number → ⊥

-- of each of these workers, fewer than 64 were taken in only if no other result is seen, or the next can't be taken in
abbrev pub TakesSeen : Kept → Kept → List WorkLanes → Type 0
TakesSeen old new lanes = (place : ℕ) → place < length lanes
    → results_taken_in (length lanes) place new
    < results_taken_in (length lanes) place old + most_results → (d : WorkLanes)
    → NextStays new (length lanes) place (results_seen (get_or lanes place d))

-- what couldn't be taken in of a worker still can't
abbrev pub NoneComes : Kept → Kept → ℕ → Type 0
NoneComes old new workers =
    (k number : ℕ) → CanBeTaken new workers k number → CanBeTaken old workers k number

-- so many results of a worker were taken in, and recorded as Finishes
pub record Collects (old new : Kept) (workers place count : ℕ) : Type 0 where
  pub repeats : Repeats old new step.Finish count
  pub own : results_taken_in workers place new ≡ results_taken_in workers place old + count
  pub others : OthersStay old new workers place
  pub none_comes : NoneComes old new workers

-- results were taken in: at most 64, and fewer only if none is seen or the next can't be taken in
pub record CollectsSeen (old new : Kept) (workers place count : ℕ) (seen : List JobResult) : Type 0 where
  pub collected : Collects old new workers place count
  pub most : count ≤ most_results
  pub rest : count < most_results → NextStays new workers place seen

-- these results are all that wait at some worker
abbrev pub Wait : Kept → List JobResult → Type 0
Wait kept waiting = (workers : ℕ) × (k : ℕ) × (done : List Done) × (untaken : List Job)
    × IsWork kept.setup workers (history kept) k (record { done = done; untaken = untaken; waiting = waiting })

-- these results were taken in, in order, each by a Finish
pub record TakesAll (old new : Kept) (results : List JobResult) : Type 0 where
  pub trace : new.trace ≡ old.trace ++ map finish_of results
  pub setup : new.setup ≡ old.setup
  pub room : old.room ≤ new.room
