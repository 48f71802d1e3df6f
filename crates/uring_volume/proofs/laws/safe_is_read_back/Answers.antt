use Rattle.uring_volume.proofs.ReadBack.{read_back}
use Rattle.uring_volume.proofs.laws.safe_is_read_back.Goals as goal

pub returns : goal.returns
returns c = read_back
