use Rattle.uring_operations.proofs.ReadinessRuns.{needs_no_look, looks_once}
use Rattle.uring_operations.proofs.requests.ready.ready_laws.Goals as goal

pub returns-clause-needs_no_look : goal.returns-clause-needs_no_look
returns-clause-needs_no_look c = needs_no_look

pub returns-clause-looks_once : goal.returns-clause-looks_once
returns-clause-looks_once c = looks_once
