use Rattle.uring_enter.proofs.AwaitingRuns.{ends_in_order}
use Rattle.uring_enter.proofs.cancels.awaiting.ends_in_order.Goals as goal

pub returns : goal.returns
returns c = ends_in_order
