use Rattle.uring_linux.proofs.GoingOn.{goes_on_from}
use Rattle.uring_linux.proofs.laws.least_free_goes_on.Goals as goal

pub returns : goal.returns
returns c = goes_on_from
