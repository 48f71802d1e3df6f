use Rattle.std.proofs.Common.{◌≡◌, ℕ, refl, arith}
use Rattle.uring_core.proofs.Common.{Core, Sq, taken, with_head_loaded, word_of}
use Rattle.uring_core.specs.declared.step.Step.TheVariants as step
use Rattle.uring_core.specs.declared.answer.Answer.TheVariants as answer
use Rattle.uring_core.proofs.CoreSteps.{SubmissionStep, core_after}
use Rattle.uring_core.proofs.cores.Core.load_head.Goals as goal

load_head_goes : (p : Core) (q : Sq) (head : ℕ)
    → SubmissionStep p q (step.LoadHead, answer.Head head) (λ g l. head ≡ word_of g.start (taken l)) (λ g l. with_head_loaded l)
load_head_goes p q head answered shown h f = grind arith

pub invariant_of-self : goal.invariant_of-self
invariant_of-self c = (c.self.invariant.0, core_after _ _ _ refl (load_head_goes _ c.load_head.new.self c.load_head.result c.load_head.ensures.answer c.load_head.ensures.shows) c.self.invariant.1)

pub returns-clause-fits : goal.returns-clause-fits
returns-clause-fits c = rw (← c.self.view_is) (load_head_goes _ c.load_head.new.self c.load_head.result c.load_head.ensures.answer c.load_head.ensures.shows)
