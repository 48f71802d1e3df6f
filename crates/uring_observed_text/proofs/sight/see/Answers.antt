use Rattle.uring_observed_text.proofs.Common.{IfOk-weaker, bad_none, recorded}
use Rattle.uring_observed_text.proofs.Looking.{none_looked, step_looked}
use Rattle.uring_observed_text.proofs.sight.see.Goals as goal

pub returns-in-Some-read-clause-sight : goal.returns-in-Some-read-clause-sight
returns-in-Some-read-clause-sight g c =
    IfOk-weaker c.sight_of_step.result _ _
    (λ seen so events fits. step_looked c.sight_of_step.new.core events c.args.line.now c.in-Some.text.now c.in-Some-read.step seen (recorded _ _ _ _ c.in-Some.ensures.1 c.in-Some.ensures.0 (rw c.in-Some-read.is at c.in_ok-read.ensures.step)) (so events fits))
    c.sight_of_step.ensures.sight

pub returns-in-None-clause-sight : goal.returns-in-None-clause-sight
returns-in-None-clause-sight g c = λ events fits.
    none_looked c.args.core.now events c.args.line.now c.sight_of_none-in-None.result (bad_none _ _ _ c.in-Some.ensures.0 (rw c.in-None.is at c.in_ok-read.ensures.step)) c.sight_of_none-in-None.ensures fits
