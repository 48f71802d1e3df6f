use Rattle.uring_volume.proofs.Folding.{letting_go_changes_none}
use Rattle.uring_volume.proofs.laws.letting_go_changes_none.Goals as goal

pub returns : goal.returns
returns c = letting_go_changes_none
