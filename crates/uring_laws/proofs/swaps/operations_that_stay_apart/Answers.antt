use Rattle.uring_laws.proofs.Apart.{apart_dont_meet}
use Rattle.uring_laws.proofs.swaps.operations_that_stay_apart.Goals as goal

pub returns : goal.returns
returns c = apart_dont_meet
