-- A worker: what it has done, and what a turn of it does. All of it is our own rule.
use Rattle.std.specs.Prelude.{◌≡◌, ℕ, ◌+◌, ◌%◌, ◌^◌, ◌<◌, ◌≤◌, List, [], ◌∷◌, ◌++◌, length, Option, Some}
use mathlib.Core.List.{IsPrefix}
use Rattle.uring_files.specs.Contents.{FileContents, empty_files}
use Rattle.uring_files.specs.Operations.{after, result_of, IsOutcome}
use Rattle.uring_files.specs.Done.{Done, files_left, AreDone}
use Rattle.uring_workers.specs.declared.job.Job.{Job}
use Rattle.uring_workers.specs.declared.job.JobResult.{JobResult}
use Rattle.uring_workers.specs.declared.worker.Worked.{Worked}
use Rattle.uring_workers.specs.declared.worker.Worked.TheVariants as worked
use Rattle.uring_workers.specs.Work.{job_of, jobs_of, results_of}

-- A worker.
pub record Worker : Type 0 where
  -- which of the workers it is, from 0
  pub place : ℕ
  -- the lanes of its jobs and of its results, as numbers that the dispatcher's ends of them have too
  pub pairing : List (List ℕ)
  -- the operations that it carried out, in order: the jobs that it took are theirs, and so are the results that it sent
  pub done : List Done
  -- its files
  pub files : List FileContents
  -- how often its gate was passed, modulo 2^64
  pub passed : ℕ
  -- the number that its gate was passed with last
  pub last_passed : Option ℕ
  -- the jobs that it has seen and not taken
  pub seen : List Job
  -- for how many results more it has seen room
  pub room : ℕ

-- the operations of these jobs, which ended with these results
abbrev pub done_of : List Job → List JobResult → List Done
done_of (j ∷ js) (r ∷ rs) =
    record { number = j.number; op = j.op; outcome = r.outcome } ∷ done_of js rs
done_of js rs = []

-- Of all jobs that it took it sent the result, in order, and each is right on its own files, which were empty at first.
pub record IsWorking (jobs : List Job) (results : List JobResult) (files : List FileContents) : Type 0 where
  pub jobs_done : jobs ≡ jobs_of (done_of jobs results)
  pub results_done : results ≡ results_of (done_of jobs results)
  pub right : AreDone (empty_files (length files)) (done_of jobs results)
  pub left : files ≡ files_left (empty_files (length files)) (done_of jobs results)

-- each operation that it carried out is right on its own files, which were empty at first, and they left its files as they are
pub record IsRight (worker : Worker) : Type 0 where
  pub done : AreDone (empty_files (length worker.files)) worker.done
  pub files : worker.files ≡ files_left (empty_files (length worker.files)) worker.done

-- it did nothing, but may have seen more jobs, and more room
pub record Looks (old new : Worker) : Type 0 where
  pub same : new ≡ record old { seen = new.seen; room = new.room }
  pub seen : IsPrefix old.seen new.seen
  pub room : old.room ≤ new.room

-- it took the job of this operation, the first that it saw, passed its gate once, with the job's number, carried the job out on its files and sent the result
pub record CarriesOut (old new : Worker) (d : Done) : Type 0 where
  pub outcome : IsOutcome old.files d.op d.outcome
  pub done : new
      ≡ record old { done = old.done ++ d ∷ []; files = after old.files d.op d.outcome.res; passed = (old.passed + 1) % 2 ^ 64; last_passed = Some d.number; seen = new.seen; room = new.room }
  pub first : IsPrefix old.seen (job_of d ∷ new.seen)
  pub room : old.room ≤ new.room + 1

-- A turn: it carried out the job of this number; or it saw no job, or no room for a result, and did nothing.
abbrev pub Turns : Worker → Worker → Worked → Type 0
Turns old new (worked.Done number) = (d : Done) × (d.number ≡ number) × CarriesOut old new d
Turns old new worked.Idle = Looks old new × (0 < new.room) × (new.seen ≡ [])
Turns old new worked.Held = Looks old new × (new.room ≡ 0)

-- the operation that it carried out, if any, ended as its files called for
abbrev pub EndsAsCalledFor : Worker → Worker → Type 0
EndsAsCalledFor old new =
    (d : Done) → new.done ≡ old.done ++ d ∷ [] → d.outcome ≡ result_of old.files d.op
