-- What a history sent to which worker, and what it has of its results. All of it is our own rule.
use Rattle.std.specs.Prelude.{◌<◌, ◌==◌, ℕ, ℤ, List, [], ◌∷◌, Option}
use Rattle.std.specs.List.{filter}
use Rattle.std.specs.Option.{option_map}
use Rattle.uring_entry.specs.Setup.{Setup}
use Rattle.uring_entry.specs.Preparation.{operation_of}
use Rattle.uring_entry.specs.Requests.{Requests, entry_of}
use Rattle.uring_entry.specs.declared.operation.Op.{Op}
use Rattle.uring_core.specs.World.{World}
use Rattle.uring_files.specs.Laws.{AgreeAt}
use Rattle.uring_core.specs.CalledFor.{IsLawful, files_of}
use Rattle.uring_core.specs.Events.{started_by}
use Rattle.uring_laws.specs.Direct.{with_told}
use Rattle.uring_files.specs.Done.{Done, files_left, AreDone}
use Rattle.uring_laws.specs.Finishes.{done_in, done_at, first_files, IsByFile}
use Rattle.uring_core.specs.Histories.{Event, History, world, IsLawfulApart}
use Rattle.uring_workers.specs.Work.{place_of_file, place_of}
use Rattle.uring_workers.specs.declared.job.Job.{Job}

-- What was sent.

-- the job of a request
abbrev pub job_in : Requests → ℕ → Job
job_in r n = record { number = n; op = operation_of (entry_of r n) }

-- the job that an event sends: that of the request that starts
abbrev pub job_by : World → Event → Option Job
job_by w event = option_map (job_in w.requests) (started_by event)

-- the jobs that a history sent, in order
abbrev pub jobs_in : Setup → History → List Job
jobs_in g [] = []
jobs_in g (event ∷ before) = with_told (jobs_in g before) (job_by (world g before) event)

-- the jobs among these that go to a worker
abbrev pub jobs_at : (Op → ℕ) → ℕ → List Job → List Job
jobs_at place k jobs = filter (λ j. place j.op == k) jobs

-- the jobs that a history sent to a worker
abbrev pub jobs_to : Setup → ℕ → ℕ → History → List Job
jobs_to g workers k h = jobs_at (place_of workers g.files) k (jobs_in g h)

-- What came back.

-- the operations that a history has of a worker, as it took in their results
abbrev pub done_by_worker : Setup → ℕ → ℕ → History → List Done
done_by_worker g workers k h = done_at (place_of workers g.files) k (done_in g h)

-- The laws.

-- Each operation has one worker, one of them, and by its file alone.
pub record IsDealtByFile (workers files : ℕ) : Type 0 where
  pub by_file : IsByFile (place_of workers files)
  pub within : (op : Op) → place_of workers files op < workers

abbrev pub DealtByFile : Type 0
DealtByFile = (workers files : ℕ) → 0 < workers → IsDealtByFile workers files

-- Each worker carried out its own operations on files that it alone has, as they call for: then the history is lawful.
abbrev pub WorkersJoin : Setup → Type 0
WorkersJoin g = (workers : ℕ) (h : History) → 0 < workers → IsLawfulApart g h
    → ((k : ℕ) → k < workers → AreDone (first_files g) (done_by_worker g workers k h))
    → IsLawful g h

-- The file of a descriptor is the one that its worker has.
abbrev pub FilesByWorker : Setup → Type 0
FilesByWorker g = (workers : ℕ) (h : History) (fd : ℤ) → IsLawfulApart g h
    → AgreeAt fd (files_of g (world g h)) (files_left (first_files g) (done_by_worker g workers (place_of_file workers g.files fd) h))
