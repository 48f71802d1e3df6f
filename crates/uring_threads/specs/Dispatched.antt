-- What went through the lanes between the dispatcher and the workers. All of it is our own rule.
use Rattle.std.specs.Prelude.{◌≡◌, ℕ, ◌<◌, List, length, get_or}
use Rattle.uring_workers.specs.declared.job.JobResult.{JobResult}
use Rattle.uring_threads.specs.Kept.{Kept, history}
use Rattle.uring_threads.specs.Dealt.{jobs_to, done_by_worker}
use Rattle.uring_workers.specs.Work.{results_of}
use Rattle.uring_workers.specs.WorkLanes.{jobs_sent, results_received}
use Rattle.uring_workers.specs.declared.work_lanes.WorkLanes.{WorkLanes}

-- the results received from a worker are those that the trace has taken in of it
abbrev pub AreTakenIn : Kept → ℕ → ℕ → List JobResult → Type 0
AreTakenIn kept workers place results =
    results ≡ results_of (done_by_worker kept.setup workers place (history kept))

-- A worker's lanes have carried what the trace has of this worker: the jobs that were sent to it, and the results that were taken in.
pub record HasCarried (kept : Kept) (workers k : ℕ) (lanes : WorkLanes) : Type 0 where
  pub jobs : jobs_sent lanes ≡ jobs_to kept.setup workers k (history kept)
  pub results : AreTakenIn kept workers k (results_received lanes)

-- and so have all, the lanes of worker 0 first
abbrev pub HaveCarried : Kept → List WorkLanes → Type 0
HaveCarried kept lanes =
    (k : ℕ) (d : WorkLanes) → k < length lanes → HasCarried kept (length lanes) k (get_or lanes k d)
