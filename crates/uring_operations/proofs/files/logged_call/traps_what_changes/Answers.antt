use Rattle.uring_operations.proofs.TrappingRuns.{traps_what_changes}
use Rattle.uring_operations.proofs.files.logged_call.traps_what_changes.Goals as goal

pub returns : goal.returns
returns c = traps_what_changes
