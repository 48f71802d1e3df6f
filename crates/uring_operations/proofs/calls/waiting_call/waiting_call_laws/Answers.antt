use Rattle.uring_operations.proofs.CallTryRuns.{ends_with_what_came, loses_no_bytes}
use Rattle.uring_operations.proofs.calls.waiting_call.waiting_call_laws.Goals as goal

pub returns-clause-ends_with_what_came : goal.returns-clause-ends_with_what_came
returns-clause-ends_with_what_came c = ends_with_what_came

pub returns-clause-loses_no_bytes : goal.returns-clause-loses_no_bytes
returns-clause-loses_no_bytes c = loses_no_bytes
