-- Work: which worker carries an operation out, what it is sent, and what comes back. All of it is our own rule.
use Rattle.std.specs.Prelude.{ℕ, ◌%◌, nat_lt, ℤ, pos, negsuc, List, map, if◌then◌else◌}
use Rattle.std.specs.Option.{option_map_or}
use Rattle.uring_entry.specs.declared.operation.Op.{Op}
use Rattle.uring_files.specs.Done.{Done}
use Rattle.uring_files.specs.Operations.{file_asked}
use Rattle.uring_workers.specs.declared.job.Job.{Job}
use Rattle.uring_workers.specs.declared.job.JobResult.{JobResult}

-- of so many workers, the one that has the file of a descriptor, of so many files: they are dealt out in turn, and a descriptor without a file is worker 0's
abbrev pub place_of_file : ℕ → ℕ → ℤ → ℕ
place_of_file workers files (pos fd) = if nat_lt fd files then fd % workers else 0
place_of_file workers files (negsuc below) = 0

-- the worker that carries out an operation: the one that has its file. What is on no file is worker 0's
abbrev pub place_of : ℕ → ℕ → Op → ℕ
place_of workers files op = option_map_or (place_of_file workers files) (file_asked op) 0

-- an operation that was carried out, as the job that it was sent as, and as the result that it came back as
abbrev pub job_of : Done → Job
job_of d = record { number = d.number; op = d.op }

abbrev pub result_of : Done → JobResult
result_of d = record { number = d.number; outcome = d.outcome }

-- the results of these operations, as they come back
abbrev pub results_of : List Done → List JobResult
results_of done = map result_of done

-- the jobs of these operations, as they were sent
abbrev pub jobs_of : List Done → List Job
jobs_of done = map job_of done
