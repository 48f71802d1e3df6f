use Rattle.uring_enter.proofs.PuttingOffRuns.{nothing_overtakes}
use Rattle.uring_enter.proofs.going_on.putting_off.putting_off_laws.Goals as goal

pub returns-clause-nothing_overtakes : goal.returns-clause-nothing_overtakes
returns-clause-nothing_overtakes c = nothing_overtakes
