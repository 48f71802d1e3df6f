use Rattle.uring_observed_text.proofs.Common.{IfOk-weaker, bad_none, recorded}
use Rattle.uring_observed_text.proofs.WrittenLines.{none_sight, step_sight}
use Rattle.uring_observed_text.proofs.written.look.Goals as goal

pub returns-in-Some-read-clause-sight : goal.returns-in-Some-read-clause-sight
returns-in-Some-read-clause-sight g c =
    IfOk-weaker c.written_step.result _ _
    (λ seen so h fits. step_sight c.written_step.new.core h c.args.line.now c.in-Some.text.now c.in-Some-read.step seen (recorded _ _ _ _ c.in-Some.ensures.1 c.in-Some.ensures.0 (rw c.in-Some-read.is at c.in_ok-read.ensures.step)) (so h fits))
    c.written_step.ensures.sight

pub returns-in-None-clause-sight : goal.returns-in-None-clause-sight
returns-in-None-clause-sight g c = λ h fits.
    none_sight c.args.core.now h c.args.line.now c.sight_of_none-in-None.result (bad_none _ _ _ c.in-Some.ensures.0 (rw c.in-None.is at c.in_ok-read.ensures.step)) c.sight_of_none-in-None.ensures fits
