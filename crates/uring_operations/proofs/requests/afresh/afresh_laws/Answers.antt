use Rattle.uring_operations.proofs.AfreshRuns.{ends_at_once, asks_what_was_changed}
use Rattle.uring_operations.proofs.requests.afresh.afresh_laws.Goals as goal

pub returns-clause-ends_at_once : goal.returns-clause-ends_at_once
returns-clause-ends_at_once c = ends_at_once

pub returns-clause-asks_what_was_changed : goal.returns-clause-asks_what_was_changed
returns-clause-asks_what_was_changed c = asks_what_was_changed
