-- Glue. Settling a worker: all its results are taken in. Our own rule.
use Rattle.std.specs.Prelude.{◌≡◌, ℕ, ◌<◌, List, [], ◌++◌, length, get_or}
use Rattle.uring_files.specs.Done.{Done}
use Rattle.uring_workers.specs.declared.job.Job.{Job}
use Rattle.uring_workers.specs.declared.work_lanes.WorkLanes.{WorkLanes}
use Rattle.uring_threads.specs.Collected.{OthersStay}
use Rattle.uring_threads.specs.Dispatched.{HasCarried}
use Rattle.uring_threads.specs.Kept.{Kept, history}
use Rattle.uring_threads.specs.Settled.{Work, IsWork, IsSettled}
use Rattle.uring_workers.specs.Work.{jobs_of}
use Rattle.uring_workers.specs.WorkLanes.{jobs_sent}
use Rattle.uring_workers.specs.Worker.{Worker, Looks}

-- All results of a worker were taken in, and of no other worker any: of the jobs that its lane has carried these are done, and these it hasn't taken.
pub record IsSettledAt (old new : Kept) (workers k : ℕ) (lanes : WorkLanes) (done : List Done) (untaken : List Job) : Type 0 where
  pub work : IsWork new.setup workers (history new) k (record { done = done; untaken = untaken; waiting = [] })
  pub carried : HasCarried new workers k lanes
  pub others : OthersStay old new workers k

-- All workers.

-- the work of workers whose results were all taken in
abbrev pub settled_work : Worker → Work
settled_work worker = record { done = worker.done; untaken = worker.seen; waiting = [] }

abbrev pub works_of : List Worker → Worker → ℕ → Work
works_of workers e k = settled_work (get_or workers k e)

-- all of them are settled: the history is lawful, the files are these workers', and what runs is what none of them has taken
abbrev pub AreSettled : Kept → List Worker → Type 0
AreSettled kept workers =
    (e : Worker) → IsSettled kept.setup (length workers) (history kept) (works_of workers e)

-- the same workers, which did nothing since
pub record HaveLooked (old new : List Worker) : Type 0 where
  pub many : length new ≡ length old
  pub looked : (k : ℕ) (e : Worker) → k < length old → Looks (get_or old k e) (get_or new k e)

-- each has seen all jobs that these lanes have carried and that it hasn't taken
abbrev pub HaveSeenAll : List WorkLanes → List Worker → Type 0
HaveSeenAll lanes workers = (k : ℕ) (d : WorkLanes) (e : Worker) → k < length lanes
    → jobs_of (get_or workers k e).done ++ (get_or workers k e).seen ≡ jobs_sent (get_or lanes k d)

-- there is a worker, and each has as many files as there are
pub record HaveFiles (files : ℕ) (workers : List Worker) : Type 0 where
  pub some : 0 < length workers
  pub each : (k : ℕ) (e : Worker) → k < length workers → length (get_or workers k e).files ≡ files
