use Rattle.uring_volume.proofs.Counting.{lists_are_as_long}
use Rattle.uring_volume.proofs.laws.lists_are_as_long.Goals as goal

pub returns : goal.returns
returns c = lists_are_as_long
