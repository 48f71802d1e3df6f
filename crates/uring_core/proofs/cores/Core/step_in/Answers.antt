use Rattle.uring_core.proofs.SureAnswers.{never_again}
use Rattle.uring_core.proofs.cores.Core.step_in.Goals as goal

pub step_alone-requires : goal.step_alone-requires
step_alone-requires g c = record { no_finish = c.requires; no_begin = c.in_default.not-Begin }

pub returns-in_default-clause-again : goal.returns-in_default-clause-again
returns-in_default-clause-again g c = λ h f e.
    absurd (never_again _ c.args.step c.step_alone.result h c.requires c.in_default.not-Begin (c.step_alone.ensures.fits h f) e)

pub returns-in_default-clause-granted : goal.returns-in_default-clause-granted
returns-in_default-clause-granted g c = λ h n f grants few e.
    never_again _ c.args.step c.step_alone.result h c.requires c.in_default.not-Begin (c.step_alone.ensures.fits h f) e

pub returns-in-Begin-clause-fits : goal.returns-in-Begin-clause-fits
returns-in-Begin-clause-fits g c = rw c.in-Begin.is c.begin.ensures.fits
