use Rattle.std.proofs.Common.{◌≡◌, refl, subst, rules}
use Rattle.uring_observed_text.proofs.Common.{Answer, IfOk-weaker, IsFollowed, no_bytes, text_of}
use Rattle.uring_core.specs.declared.answer.Answer.TheVariants as answer
use Rattle.uring_core.specs.declared.step.Step.TheVariants as step
use Rattle.uring_observed_text.proofs.WrittenSteps.{finish_followed, no_answer, no_finish}
use Rattle.uring_observed_text.proofs.written.written_finish.Goals as goal

pub returns-then-idle-clause-sight : goal.returns-then-idle-clause-sight
returns-then-idle-clause-sight g c =
    let same : text_of answer.NotRunning ≡ c.args.text.now = search rules in
    IfOk-weaker c.followed.result _ _
    (λ seen so h fits. finish_followed c.followed.new.core h c.args.number c.args.text.now answer.NotRunning seen tt same (λ m. tt) (so h fits))
    c.followed.ensures.followed

pub returns-in_default-clause-sight : goal.returns-in_default-clause-sight
returns-in_default-clause-sight g c = λ h fits.
    let other : text_of answer.NotRunning ≡ c.args.text.now → ⊥ = search rules in
    no_finish c.args.core.now h c.args.number c.args.text.now (no_answer c.args.text.now other c.in_default.ensures)

pub returns-clause-sight : goal.returns-clause-sight
returns-clause-sight g c =
    let is : c.ended.result ≡ answer.Ended c.in-Some.res no_bytes = search rules in
    IfOk-weaker c.followed-2.result _ _
    (λ seen so h fits. finish_followed c.followed-2.new.core h c.args.number c.args.text.now (answer.Ended c.in-Some.res no_bytes) seen refl c.in-Some.ensures.0 (λ m. c.in-Some.ensures.1) (subst (λ (a : Answer). IsFollowed c.followed-2.new.core h (step.Finish c.args.number) a seen) is (so h fits)))
    c.followed-2.ensures.followed
