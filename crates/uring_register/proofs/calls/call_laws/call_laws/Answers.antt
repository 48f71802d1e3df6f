use Rattle.uring_register.proofs.CallRuns.{is_made_by_right}
use Rattle.uring_register.proofs.calls.call_laws.call_laws.Goals as goal

pub returns-clause-is_made_by_right : goal.returns-clause-is_made_by_right
returns-clause-is_made_by_right c = is_made_by_right
