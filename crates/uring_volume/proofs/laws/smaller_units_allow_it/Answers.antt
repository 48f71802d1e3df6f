use Rattle.uring_volume.proofs.Units.{smaller_units}
use Rattle.uring_volume.proofs.laws.smaller_units_allow_it.Goals as goal

pub returns : goal.returns
returns c = smaller_units
