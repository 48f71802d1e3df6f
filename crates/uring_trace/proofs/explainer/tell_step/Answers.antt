use Rattle.std.proofs.Common.{arith}
use Rattle.uring_trace.proofs.Common.{elements_for_step, on_ok_weaker, world}
use Rattle.uring_trace.proofs.ExplainLines.{line_reasoned}
use Rattle.uring_trace.proofs.explainer.tell_step.Goals as goal

pub returns-clause-told : goal.returns-clause-told
returns-clause-told g c = on_ok_weaker c.push_text.result
    (λ ended.
    record {
      answer = c.step_in-answer.result;
      told = λ h fits. line_reasoned _ _ _ _ _ c.step_in-answer.result _ _ _ _ _ _ _ c.in_ok-push_answer_in.ensures.bytes c.in_ok-push_reason.ensures.bytes c.in_ok-push_after.ensures.told ended c.keep.ensures (c.ask-why.ensures h fits) (c.seek-found.ensures h fits) ((rw c.core.ensures at c.in_ok-chosen.ensures.told) h fits.core);
      same = c.step_in-answer.ensures.setup;
      fits = c.step_in-answer.ensures.fits;
      unrefused = λ sure h f. let n = elements_for_step c.args.machine.now.core (world c.args.machine.now.core.setup h) c.args.step.now in (c.step_in-answer.ensures.granted h n f (sure n) (omega arith), tt);
    })
    c.push_text.ensures.bytes
