use Rattle.std.proofs.lemmas.Result.{IfOk-weaker}
use Rattle.uring_observed_text.proofs.WrittenSteps.{none_written, reap_written}
use Rattle.uring_observed_text.proofs.written.written_reap.Goals as goal

pub returns-in-Reaped-clause-sight : goal.returns-in-Reaped-clause-sight
returns-in-Reaped-clause-sight g c =
    IfOk-weaker c.written_completion.result _ _
    (λ seen so h fits. reap_written c.step-answer.new.self h c.in-Reaped.completion c.args.text.now seen (rw c.in-Reaped.is at (c.step-answer.ensures.fits h fits)) so)
    c.written_completion.ensures.completed

pub returns-in_default-clause-sight : goal.returns-in_default-clause-sight
returns-in_default-clause-sight g c =
    IfOk-weaker c.shown_if.result _ _
    (λ seen so h fits. none_written c.step-answer.new.self h c.step-answer.result c.args.text.now seen c.in_default.not-Reaped (c.step-answer.ensures.fits h fits) so)
    c.shown_if.ensures.shown
