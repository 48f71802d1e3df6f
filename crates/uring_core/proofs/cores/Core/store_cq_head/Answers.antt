use Rattle.std.proofs.Common.{◌≡◌, ℕ, length, refl, arith}
use Rattle.uring_core.proofs.Common.{Core, Cq, with_head_stored, word_of}
use Rattle.uring_core.specs.declared.step.Step.TheVariants as step
use Rattle.uring_core.specs.declared.answer.Answer.TheVariants as answer
use Rattle.uring_core.proofs.CoreSteps.{CompletionStep, core_after}
use Rattle.uring_core.proofs.cores.Core.store_cq_head.Goals as goal

store_cq_head_goes : (p : Core) (q : Cq) (head : ℕ)
    → CompletionStep p q (step.StoreCqHead, answer.Head head) (λ g l. head ≡ word_of g.start (length l.reaped)) (λ g l. with_head_stored l)
store_cq_head_goes p q head answered shown room memory h f = grind arith

pub invariant_of-self : goal.invariant_of-self
invariant_of-self c = (c.self.invariant.0, core_after _ _ _ refl (store_cq_head_goes _ c.store_head.new.self c.store_head.result c.store_head.ensures.answer c.store_head.ensures.shows c.store_head.ensures.room c.store_head.ensures.memory) c.self.invariant.1)

pub returns-clause-fits : goal.returns-clause-fits
returns-clause-fits c = rw (← c.self.view_is) (store_cq_head_goes _ c.store_head.new.self c.store_head.result c.store_head.ensures.answer c.store_head.ensures.shows c.store_head.ensures.room c.store_head.ensures.memory)
