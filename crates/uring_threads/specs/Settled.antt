-- Settling: what the dispatcher and the workers leave as they stop, and the history that it makes. Our own rule.
use Rattle.std.specs.Prelude.{◌≡◌, ◌≢◌, ◌↔◌, ℕ, zero, suc, ◌<◌, ◌==◌, true, ℤ, List, [], ◌∷◌, ◌++◌, map}
use Rattle.std.specs.List.{list_any}
use Rattle.uring_entry.specs.Setup.{Setup}
use Rattle.uring_entry.specs.Preparation.{operation_of}
use Rattle.uring_entry.specs.Requests.{entry_of, is_running}
use Rattle.uring_files.specs.Laws.{AgreeAt}
use Rattle.uring_core.specs.CalledFor.{IsLawful, files_of}
use Rattle.uring_files.specs.Done.{Done, files_left, AreDone}
use Rattle.uring_laws.specs.Finishes.{first_files}
use Rattle.uring_core.specs.Histories.{Event, History, world, IsLawfulApart, history_of}
use Rattle.uring_core.specs.declared.step.Step.TheVariants as step
use Rattle.uring_core.specs.declared.answer.Answer.TheVariants as answer
use Rattle.uring_workers.specs.declared.job.Job.{Job}
use Rattle.uring_workers.specs.declared.job.JobResult.{JobResult}
use Rattle.uring_workers.specs.Work.{place_of_file, place_of, jobs_of, results_of}
use Rattle.uring_threads.specs.Dealt.{jobs_to, done_by_worker}

-- What a worker leaves.
pub record Work : Type 0 where
  -- the operations that it carried out, in order
  pub done : List Done
  -- the jobs sent to it that it hasn't taken
  pub untaken : List Job
  -- its results that the dispatcher hasn't taken in
  pub waiting : List JobResult

-- The work of a worker after a history: it took the jobs that were sent to it, and sent the results that were taken in, both from the first on.
pub record IsWork (g : Setup) (workers : ℕ) (h : History) (k : ℕ) (work : Work) : Type 0 where
  pub jobs : jobs_of work.done ++ work.untaken ≡ jobs_to g workers k h
  pub results : results_of (done_by_worker g workers k h) ++ work.waiting ≡ results_of work.done

-- the Finish by which a result is taken in
abbrev pub finish_of : JobResult → Event
finish_of r = (step.Finish r.number, answer.Ended r.outcome.res r.outcome.bytes)

-- the results of so many workers that wait, worker 0's first
abbrev pub waiting_of : (ℕ → Work) → ℕ → List JobResult
waiting_of works zero = []
waiting_of works (suc workers) = waiting_of works workers ++ (works workers).waiting

-- a history after which these results are taken in, in order
abbrev pub with_taken_in : List JobResult → History → History
with_taken_in results h = history_of (map finish_of results) ++ h

-- whether the job of a request was sent and taken by no worker
abbrev pub IsUntaken : (ℕ → Work) → ℕ → ℕ → Type 0
IsUntaken works workers n =
    (k : ℕ) × (k < workers) × (list_any (λ job. job.number == n) (works k).untaken ≡ true)

-- A result that waits at a worker can be taken in: its request runs, and is that worker's. Those after it wait next; no job is sent by it, and of no other worker is anything taken in.
pub record IsTakenIn (g : Setup) (workers : ℕ) (h : History) (k : ℕ) (work : Work) (r : JobResult) : Type 0 where
  pub runs : is_running (world g h).requests r.number ≡ true
  pub own : place_of workers g.files (operation_of (entry_of (world g h).requests r.number)) ≡ k
  pub later : IsWork g workers (finish_of r ∷ h) k work
  pub sent : (j : ℕ) → jobs_to g workers j (finish_of r ∷ h) ≡ jobs_to g workers j h
  pub others : (j : ℕ) → j ≢ k
      → done_by_worker g workers j (finish_of r ∷ h) ≡ done_by_worker g workers j h

-- A history into which all results were taken: it is lawful, each worker has the files of its own descriptors, and the requests that run are those whose jobs no worker took.
pub record IsSettled (g : Setup) (workers : ℕ) (h : History) (works : ℕ → Work) : Type 0 where
  pub lawful : IsLawful g h
  pub files : (fd : ℤ)
      → AgreeAt fd (files_of g (world g h)) (files_left (first_files g) (works (place_of_file workers g.files fd)).done)
  pub running : (n : ℕ) → (is_running (world g h).requests n ≡ true) ↔ IsUntaken works workers n

-- The laws.

-- The first result that waits at a worker can be taken in.
abbrev pub ResultsRun : Setup → Type 0
ResultsRun g =
    (workers : ℕ) (h : History) (k : ℕ) (done : List Done) (untaken : List Job) (r : JobResult) (later : List JobResult)
    → IsLawfulApart g h
    → IsWork g workers h k (record { done = done; untaken = untaken; waiting = r ∷ later })
    → IsTakenIn g workers h k (record { done = done; untaken = untaken; waiting = later }) r

-- Each worker carried out its operations as its own files call for, and none of its results waits: then the history is settled.
abbrev pub NoneWaits : Setup → Type 0
NoneWaits g = (workers : ℕ) (h : History) (works : ℕ → Work) → 0 < workers → IsLawfulApart g h
    → ((k : ℕ) → k < workers → IsWork g workers h k (works k))
    → ((k : ℕ) → k < workers → AreDone (first_files g) (works k).done)
    → ((k : ℕ) → k < workers → (works k).waiting ≡ [])
    → IsSettled g workers h works

-- Each worker carried out its operations as its own files call for: then the history is settled once all results that wait are taken in, worker 0's first.
abbrev pub Settles : Setup → Type 0
Settles g = (workers : ℕ) (h : History) (works : ℕ → Work) → 0 < workers → IsLawfulApart g h
    → ((k : ℕ) → k < workers → IsWork g workers h k (works k))
    → ((k : ℕ) → k < workers → AreDone (first_files g) (works k).done)
    → IsSettled g workers (with_taken_in (waiting_of works workers) h) works
