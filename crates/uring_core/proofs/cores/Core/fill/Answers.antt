use Rattle.std.proofs.Common.{◌≡◌, ℕ, refl, arith}
use Rattle.uring_core.proofs.Common.{Core, Sq, Sqe, common_steps, fill_told}
use Rattle.uring_rings.specs.SqAnswers as ring
use Rattle.uring_rings.specs.declared.answers.FillAnswer.{FillAnswer}
use Rattle.uring_core.specs.declared.step.Step.TheVariants as step
use Rattle.uring_core.proofs.CoreSteps.{SubmissionStep, core_after}
use Rattle.uring_core.proofs.cores.Core.fill.Goals as goal

fill_goes : (p : Core) (q : Sq) (slot : ℕ) (entry : Sqe) (r : FillAnswer)
    → SubmissionStep p q (step.Fill slot entry, fill_told r) (λ g l. r ≡ ring.fill_answer g.sq l slot) (λ g l. ring.after_fill l slot entry r)
fill_goes p q slot entry r answered shown h f = grind (arith, common_steps)

pub invariant_of-self : goal.invariant_of-self
invariant_of-self c = (c.self.invariant.0, core_after _ _ _ refl (fill_goes _ c.fill.new.self c.args.slot c.args.entry.now c.fill.result c.fill.ensures.answer c.fill.ensures.shows) c.self.invariant.1)

pub returns-clause-fits : goal.returns-clause-fits
returns-clause-fits c = rw (c.from.ensures, ← c.self.view_is) (fill_goes _ c.fill.new.self c.args.slot c.args.entry.now c.fill.result c.fill.ensures.answer c.fill.ensures.shows)
