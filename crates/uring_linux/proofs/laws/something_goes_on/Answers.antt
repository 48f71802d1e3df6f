use Rattle.uring_linux.proofs.GoingOn.{something_issuable}
use Rattle.uring_linux.proofs.laws.something_goes_on.Goals as goal

pub returns : goal.returns
returns c = something_issuable
