use Rattle.uring_laws.proofs.FoundLaws.{found_said, said_found}
use Rattle.uring_laws.proofs.reasons.found_is_said.Goals as goal

pub returns : goal.returns
returns c = λ r n f. (found_said r n f, said_found r n f)
