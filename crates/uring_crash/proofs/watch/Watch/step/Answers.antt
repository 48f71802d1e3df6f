use Rattle.uring_crash.proofs.Watching.{finished_on, issued_on, other_on}
use Rattle.uring_crash.proofs.watch.Watch.step.Goals as goal

pub returns-in_ok-note_issue_in-in-Issue-clause-watches : goal.returns-in_ok-note_issue_in-in-Issue-clause-watches
returns-in_ok-note_issue_in-in-Issue-clause-watches g c = λ unit setup fd h w.
    rw c.in-Issue.is (issued_on unit setup fd _ _ _ _ c.in-Issue.number c.step_in-answer.result c.running_op-op.result h c.step_in-answer.ensures.setup c.step_in-answer.ensures.fits c.running_op-op.ensures.value c.in_ok-note_issue_in-in-Issue.ensures.log c.in_ok-note_issue_in-in-Issue.ensures.unit c.in_ok-note_issue_in-in-Issue.ensures.first w)

pub returns-in-Finish-clause-watches : goal.returns-in-Finish-clause-watches
returns-in-Finish-clause-watches g c = λ unit setup fd h w.
    rw c.in-Finish.is (finished_on unit setup fd _ _ _ _ c.in-Finish.number c.step_in-answer-in-Finish.result c.running_op-op-in-Finish.result h c.step_in-answer-in-Finish.ensures.setup c.step_in-answer-in-Finish.ensures.fits c.running_op-op-in-Finish.ensures.value c.note_finish.ensures.log c.note_finish.ensures.unit c.note_finish.ensures.first w)

pub returns-in_default-clause-watches : goal.returns-in_default-clause-watches
returns-in_default-clause-watches g c = λ unit setup fd h w.
    other_on unit setup fd _ _ _ c.args.step c.step_in.result h c.in_default.not-Issue c.in_default.not-Finish c.step_in.ensures.setup c.step_in.ensures.fits w
