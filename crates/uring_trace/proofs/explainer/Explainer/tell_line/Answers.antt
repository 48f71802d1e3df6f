use Rattle.std.proofs.Common.{[], ◌∷◌, sym, ap, ◌∙◌, append_assoc}
use Rattle.uring_trace.proofs.Common.{IfOk-weaker, ended, on_ok_weaker, shown, string_bytes, world}
use Rattle.uring_trace.proofs.ExplainLines.{if_ok_both, line_made, line_asked, line_remark, line_bad}
use Rattle.uring_trace.proofs.explainer.Explainer.tell_line.Goals as goal

pub returns-in-Some-clause-told : goal.returns-in-Some-clause-told
returns-in-Some-clause-told g c =
    IfOk-weaker c.tell_step.result _ _
    (λ done h line k. line_made _ _ _ c.args.self.now.number c.args.self.now.has_bad line _ _ _ c.in-Some.step (rw c.in-Some.is at (c.in_ok-step.ensures.step line k)) h)
    c.tell_step.ensures.told

pub returns-in_ok-push_shown-in-Some-read_question-clause-told : goal.returns-in_ok-push_shown-in-Some-read_question-clause-told
returns-in_ok-push_shown-in-Some-read_question-clause-told g c =
    let m = c.args.self.now.machine in
    let question = c.in-Some-read_question.question in
    on_ok_weaker c.push_text.result
    (λ end line k. line_asked _ m c.args.self.now.number c.args.self.now.has_bad line _ _ _ question
    (rw c.in-Some-read_question.is at (c.read_question.ensures line k))
    (λ h fits. end ∙ ap ended (c.in_ok-push_shown-in-Some-read_question.ensures.bytes h fits) ∙ append_assoc (string_bytes c.args.text.now) (shown m.core.setup (world m.core.setup h) question) (10 ∷ [])))
    c.push_text.ensures.bytes

pub returns-in-None-clause-told : goal.returns-in-None-clause-told
returns-in-None-clause-told g c = λ line k. line_remark _ c.args.self.now.machine c.args.self.now.number c.args.self.now.has_bad line _ _ (sym (c.is_remark.ensures line k) ∙ c.if-is_remark.true)

pub returns-in-None-read_question-clause-told : goal.returns-in-None-read_question-clause-told
returns-in-None-read_question-clause-told g c =
    if_ok_both c.tell_bad.result _ _ _
    (λ done told noted line k.
    line_bad _ c.args.self.now.machine c.args.self.now.number c.args.self.now.has_bad line _ _ _ _ (rw c.in-None-2.is at (c.in_ok-step.ensures.step line k))
    (sym (c.is_remark.ensures line k) ∙ c.if-is_remark.false) (rw c.in-None-read_question.is at (c.read_question.ensures line k)) told (noted line k))
    c.tell_bad.ensures.told c.tell_bad.ensures.noted
