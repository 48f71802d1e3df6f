use Rattle.uring_outcomes.proofs.OutcomeLaws.{histories_are_moves}
use Rattle.uring_outcomes.proofs.move_laws.histories_are_moves.Goals as goal

pub returns : goal.returns
returns c = histories_are_moves
