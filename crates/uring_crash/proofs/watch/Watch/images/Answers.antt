use Rattle.std.proofs.lemmas.Result.{IfOk-weaker}
use Rattle.uring_crash.proofs.Watching.{the_images_in}
use Rattle.uring_crash.proofs.watch.Watch.images.Goals as goal

pub returns-clause-images : goal.returns-clause-images
returns-clause-images g c =
    IfOk-weaker c.images_in.result _ _
    (λ images are unit setup fd h w. the_images_in unit setup fd _ _ h c.volume.result.now _ w c.volume.ensures are)
    c.images_in.ensures.images

pub returns-clause-too_many : goal.returns-clause-too_many
returns-clause-too_many g c = λ is unit setup fd h w.
    let found = c.images_in.ensures.too_many is in
    (found.0, the_images_in unit setup fd _ _ h c.volume.result.now found.0 w c.volume.ensures found.1, found.2)
