use Rattle.uring_enter.proofs.DueRuns.{looks_at_none_again}
use Rattle.uring_enter.proofs.going_on.due.due_laws.Goals as goal

pub returns-clause-looks_at_none_again : goal.returns-clause-looks_at_none_again
returns-clause-looks_at_none_again c = looks_at_none_again
