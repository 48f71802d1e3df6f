use Rattle.uring_outcomes.proofs.EndingLaws.{endings_are_outcomes}
use Rattle.uring_outcomes.proofs.laws.endings_are_outcomes.Goals as goal

pub returns : goal.returns
returns c = endings_are_outcomes
