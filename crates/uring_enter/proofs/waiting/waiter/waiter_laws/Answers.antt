use Rattle.uring_enter.proofs.WaiterRuns.{ring_knows}
use Rattle.uring_enter.proofs.waiting.waiter.waiter_laws.Goals as goal

pub returns-clause-ring_knows : goal.returns-clause-ring_knows
returns-clause-ring_knows c = ring_knows
