use Rattle.uring_laws.proofs.ReasonLaws.{waits_said}
use Rattle.uring_laws.proofs.reasons.waits_is_said.Goals as goal

pub returns : goal.returns
returns c = waits_said
