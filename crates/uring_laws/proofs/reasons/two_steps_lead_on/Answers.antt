use Rattle.uring_laws.proofs.ReasonLaws.{two_steps}
use Rattle.uring_laws.proofs.reasons.two_steps_lead_on.Goals as goal

pub returns : goal.returns
returns c = two_steps
