use Rattle.uring_volume.proofs.Rest.{one_image}
use Rattle.uring_volume.proofs.laws.rest_has_one_image.Goals as goal

pub returns : goal.returns
returns c = one_image
