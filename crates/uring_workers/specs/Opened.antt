-- Workers and their lanes: which belong together, and how they stand before anything is done with them. All of it is our own rule.
use Rattle.std.specs.Prelude.{◌≡◌, ℕ, ◌<◌, ◌≤◌, List, [], length, get_or, None}
use Rattle.uring_files.specs.Contents.{empty_files}
use Rattle.uring_workers.specs.Pairings.{pairing_of}
use Rattle.uring_workers.specs.WorkLanes.{HaveCarriedNone, HoldJobs, results_held}
use Rattle.uring_workers.specs.Worker.{Worker}
use Rattle.uring_workers.specs.declared.work_lanes.WorkLanes.{WorkLanes}

-- the worker of this place, which did nothing yet: it has so many empty files, and its gate wasn't passed
pub record IsFreshWorker (files k : ℕ) (worker : Worker) : Type 0 where
  pub place : worker.place ≡ k
  pub done : worker.done ≡ []
  pub empty : worker.files ≡ empty_files files
  pub passed : (worker.passed ≡ 0) × (worker.last_passed ≡ None)

-- the workers, in their order
abbrev pub AreFreshWorkers : ℕ → List Worker → Type 0
AreFreshWorkers files workers =
    (k : ℕ) (e : Worker) → k < length workers → IsFreshWorker files k (get_or workers k e)

-- the dispatcher's ends of the lanes of these workers, worker 0's first: each holds at most 64 results
pub record AreLanesOf (files : ℕ) (lanes : List WorkLanes) (workers : List Worker) : Type 0 where
  pub many : length workers ≡ length lanes
  pub pairing : (k : ℕ) (d : WorkLanes) (e : Worker) → k < length lanes
      → (get_or workers k e).pairing ≡ pairing_of (get_or lanes k d).jobs (get_or lanes k d).results
  pub short : (k : ℕ) (d : WorkLanes) → k < length lanes
      → results_held (get_or lanes k d) ≤ 64
  pub have : (k : ℕ) (e : Worker) → k < length lanes → length (get_or workers k e).files ≡ files

-- the dispatcher's ends of fresh lanes, and their workers, in their order
pub record AreOpened (files : ℕ) (lanes : List WorkLanes) (workers : List Worker) : Type 0 where
  pub pairs : AreLanesOf files lanes workers
  pub none_carried : HaveCarriedNone lanes
  pub hold : HoldJobs lanes
  pub fresh : AreFreshWorkers files workers
