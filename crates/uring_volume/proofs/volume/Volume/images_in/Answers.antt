use Rattle.std.proofs.Common.{map}
use Rattle.uring_volume.proofs.Results.{on_value}
use Rattle.uring_volume.proofs.KeptFolds.{images_folded, more_folded}
use Rattle.uring_volume.proofs.volume.Volume.images_in.Goals as goal

pub returns-in-Ok-clause-images : goal.returns-in-Ok-clause-images
returns-in-Ok-clause-images g c =
    on_value c.images_kept.result _ _ (λ images is. images_folded c.args.self.now c.in-Ok.folded (map (λ b. b.items) images.items) c.is_sound.ensures c.in-Ok.ensures.folded is) c.images_kept.ensures.images

pub returns-in-Ok-clause-too_many : goal.returns-in-Ok-clause-too_many
returns-in-Ok-clause-too_many g c = λ more.
    more_folded c.args.self.now c.in-Ok.folded c.args.most c.is_sound.ensures c.in-Ok.ensures.folded (c.images_kept.ensures.too_many more)
