use Rattle.std.proofs.Common.{◌≡◌, None, ◌∙◌, rules, arith}
use Rattle.uring_trace.proofs.Common.{elements_for_step, on_ok_weaker, world}
use Rattle.uring_trace.proofs.Sessions.{told_step, told_bad}
use Rattle.uring_trace.proofs.session.Session.answer_line.Goals as goal

pub returns-clause-answer : goal.returns-clause-answer
returns-clause-answer g c = on_ok_weaker c.push_bytes-2.result
    (λ after line k.
    let read = rw c.in-Some.is at (c.in_ok-step.ensures.step line k) in
    let pushed = rw c.clear.ensures.bytes at c.in_ok-push_answer_in.ensures.bytes in
    let before = c.in_ok-push_step.ensures.line line k read.short in
    told_step _ _ _ c.args.self.now.is_echo line _ _ _ _ c.in-Some.step c.step_in-answer.result read before (c.as_bytes.ensures.value ∙ pushed) after c.step_in-answer.ensures.setup c.step_in-answer.ensures.fits
    (λ sure h f. let n = elements_for_step c.args.self.now.machine.core (world c.args.self.now.machine.core.setup h) c.in-Some.step in c.step_in-answer.ensures.granted h n f (sure n) (omega arith)))
    c.push_bytes-2.ensures.items

pub returns-in_default-clause-answer : goal.returns-in_default-clause-answer
returns-in_default-clause-answer g c =
    let none : c.in_ok-step.field-0 ≡ None = search rules in
    on_ok_weaker c.push_bytes.result
    (λ e line k. told_bad _ _ c.args.self.now.is_echo line _ _ (rw none at (c.in_ok-step.ensures.step line k)) e)
    c.push_bytes.ensures.items
