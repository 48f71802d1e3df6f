use Rattle.uring_core.proofs.Running.{asks_files}
use Rattle.uring_core.proofs.cores.Core.running_op.Goals as goal

pub returns-clause-asks : goal.returns-clause-asks
returns-clause-asks c = asks_files _ c.args.number c.running_op.result c.self.invariant.1 (λ h f. c.running_op.ensures _ f.shows.requests)
