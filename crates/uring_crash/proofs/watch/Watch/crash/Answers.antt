use Rattle.std.proofs.lemmas.Result.{IfOk-weaker}
use Rattle.uring_crash.proofs.Watching.{image_of}
use Rattle.uring_crash.proofs.watch.Watch.crash.Goals as goal

pub returns-clause-image : goal.returns-clause-image
returns-clause-image g c = IfOk-weaker c.crash_in.result _ _ (λ now image unit setup fd h w. image_of unit setup fd _ _ h now.items w image) c.crash_in.ensures.image
