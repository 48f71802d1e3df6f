use Rattle.uring_volume.proofs.Folding.{fold_changes_none}
use Rattle.uring_volume.proofs.laws.fold_changes_none.Goals as goal

pub returns : goal.returns
returns c = fold_changes_none
