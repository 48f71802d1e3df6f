use Rattle.uring_operations.proofs.AdvanceRuns.{leaves_what_is_after}
use Rattle.uring_operations.proofs.calls.advance.leaves_what_is_after.Goals as goal

pub returns : goal.returns
returns c = leaves_what_is_after
