use Rattle.std.proofs.Common.{refl}
use Rattle.std.proofs.lemmas.Result.{IfOk-weaker}
use Rattle.uring_crash_machine.proofs.Short.{short_image}
use Rattle.uring_crash_machine.proofs.file_log.FileLog.crash_in.Goals as goal

pub returns-clause-short : goal.returns-clause-short
returns-clause-short g c =
    IfOk-weaker c.crash_in.result _ _ (λ now image. short_image c.self.inside.volume now.items c.self.invariant.short image) c.crash_in.ensures.image

pub returns-clause-image : goal.returns-clause-image
returns-clause-image g c = rw (← c.self.view_is) c.crash_in.ensures.image

pub returns-clause-chosen : goal.returns-clause-chosen
returns-clause-chosen g c =
    rw (← c.self.view_is) (IfOk-weaker c.crash_in.result _ _ (λ now is. (is now.items).1 refl) c.crash_in.ensures.chosen)
