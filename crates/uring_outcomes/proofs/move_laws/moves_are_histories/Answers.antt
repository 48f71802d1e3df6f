use Rattle.uring_outcomes.proofs.OutcomeLaws.{moves_are_histories}
use Rattle.uring_outcomes.proofs.move_laws.moves_are_histories.Goals as goal

pub returns : goal.returns
returns c = moves_are_histories
