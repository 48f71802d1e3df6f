use Rattle.uring_threads.proofs.Dealing.{dealt_by_file, workers_join, files_by_worker}
use Rattle.uring_threads.proofs.laws.workers_join.Goals as goal

pub returns : goal.returns
returns c = record { dealt = dealt_by_file; lawful = workers_join; files = files_by_worker }
