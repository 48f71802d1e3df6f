use Rattle.uring_operations.proofs.CancellingRuns.{marks_at_last}
use Rattle.uring_operations.proofs.requests.cancelling.marks_at_last.Goals as goal

pub returns : goal.returns
returns c = marks_at_last
