use Rattle.uring_machine.proofs.Settling.{settled_anyway}
use Rattle.uring_machine.proofs.machine.Machine.settle_idle.Goals as goal

pub returns-clause-settled : goal.returns-clause-settled
returns-clause-settled c = λ h fits. settled_anyway _ c.settle_idle_in.new.self h c.settle_idle_in.result (c.settle_idle_in.ensures.settled h fits)
