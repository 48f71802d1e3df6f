use Rattle.uring_laws.proofs.WholeCalls.{takes_whole_call}
use Rattle.uring_laws.proofs.calls.empty_ring_takes_a_whole_call.Goals as goal

pub returns : goal.returns
returns c = takes_whole_call
