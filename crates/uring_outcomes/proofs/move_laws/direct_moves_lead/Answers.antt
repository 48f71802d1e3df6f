use Rattle.uring_outcomes.proofs.Directing.{direct_moves_lead}
use Rattle.uring_outcomes.proofs.move_laws.direct_moves_lead.Goals as goal

pub returns : goal.returns
returns c = direct_moves_lead
