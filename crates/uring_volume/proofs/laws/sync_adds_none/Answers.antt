use Rattle.uring_volume.proofs.Narrower.{sync_adds_none}
use Rattle.uring_volume.proofs.laws.sync_adds_none.Goals as goal

pub returns : goal.returns
returns c = sync_adds_none
