use Rattle.uring_threads.proofs.CallLengths.{keeps_lengths}
use Rattle.uring_threads.proofs.laws.calls_keep_their_lengths.Goals as goal

pub returns : goal.returns
returns c = keeps_lengths
