use Rattle.std.proofs.Common.{◌≡◌, ◌+◌, ◌∷◌, negsuc, if◌then◌else◌, subst, ◌∙◌, ap}
use Rattle.uring_callers.proofs.Common.{issue_answer, no_bytes, world}
use Rattle.uring_core.specs.declared.step.Step.TheVariants as step
use Rattle.uring_core.specs.declared.answer.Answer.TheVariants as answer
use Rattle.uring_callers.proofs.Broken.{cancelled_after}
use Rattle.uring_callers.proofs.simulator.break_chain.Goals as goal

pub returns-clause-cancelled : goal.returns-clause-cancelled
returns-clause-cancelled c = λ h fits next.
    let n = c.args.number in
    let told : c.finish.result ≡ answer.Ended (negsuc 4) no_bytes = c.finish.ensures.outcome h fits ∙ ap (λ b. if b then answer.Ended (negsuc 4) no_bytes else answer.NotRunning) next.runs in
    let issued = c.step.ensures.fits _ (c.finish.ensures.fits h fits) in
    cancelled_after c.args.core.now.setup h n 4 no_bytes c.finish.result c.step.result fits.lawful next told
    (subst (λ s. c.step.result ≡ issue_answer s (world s ((step.Finish n, c.finish.result) ∷ h)) (n + 1)) (c.step.ensures.setup ∙ c.finish.ensures.setup) issued.lawful.0)
