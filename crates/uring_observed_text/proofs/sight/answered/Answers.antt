use Rattle.std.proofs.Common.{◌≡◌, rules}
use Rattle.std.proofs.Math.Nat.{le_refl}
use Rattle.uring_core.specs.declared.answer.Answer.TheVariants as answer
use Rattle.uring_observed_text.proofs.Common.{IfOk-weaker, text_of}
use Rattle.uring_observed_text.proofs.Showing.{again_answered, step_answered}
use Rattle.uring_observed_text.proofs.sight.answered.Goals as goal

pub returns-then-refused-clause-sight : goal.returns-then-refused-clause-sight
returns-then-refused-clause-sight g c =
    let same : text_of answer.Again ≡ c.args.text.now = search rules in
    IfOk-weaker c.followed.result _ _ (λ seen so h fits. again_answered c.followed.new.core h c.args.step.now c.args.text.now seen same (so h fits)) c.followed.ensures.followed

pub returns-in_default-clause-sight : goal.returns-in_default-clause-sight
returns-in_default-clause-sight g c =
    let other : text_of answer.Again ≡ c.args.text.now → ⊥ = search rules in
    IfOk-weaker c.shown_if.result _ _ (λ seen so h fits. step_answered c.step_in-answer.new.self h c.args.step.now c.step_in-answer.result c.args.text.now seen c.requires other c.in_default.not-Again (c.step_in-answer.ensures.fits h fits) so) c.shown_if.ensures.shown

pub returns-in-Again-clause-granted : goal.returns-in-Again-clause-granted
returns-in-Again-clause-granted g c = λ h fits all.
    absurd (c.step_in-answer.ensures.granted h _ fits (all _) (le_refl _) c.in-Again.is)
