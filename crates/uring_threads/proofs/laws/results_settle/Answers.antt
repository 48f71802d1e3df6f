use Rattle.uring_threads.proofs.Settling.{results_run, none_waits, settles}
use Rattle.uring_threads.proofs.laws.results_settle.Goals as goal

pub returns : goal.returns
returns c = record { one = results_run; none = none_waits; all = settles }
