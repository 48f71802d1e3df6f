use Rattle.uring_dispatch.proofs.Common.{least_of_goes_on, or_cases}
use Rattle.uring_dispatch.proofs.laws.least_goes_on.Goals as goal

pub returns : goal.returns
returns c = λ r n e. or_cases _ _ (least_of_goes_on r n e)
