use Rattle.std.proofs.Common.{◌≡◌, ℕ, refl, arith}
use Rattle.uring_core.proofs.Common.{Core, Cq, with_tail_loaded, word_of}
use Rattle.uring_core.specs.declared.step.Step.TheVariants as step
use Rattle.uring_core.specs.declared.answer.Answer.TheVariants as answer
use Rattle.uring_core.proofs.CoreSteps.{CompletionStep, core_after}
use Rattle.uring_core.proofs.cores.Core.load_cq_tail.Goals as goal

load_cq_tail_goes : (p : Core) (q : Cq) (tail : ℕ)
    → CompletionStep p q (step.LoadCqTail, answer.Tail tail) (λ g l. tail ≡ word_of g.start l.put) (λ g l. with_tail_loaded l)
load_cq_tail_goes p q tail answered shown room memory h f = grind arith

pub invariant_of-self : goal.invariant_of-self
invariant_of-self c = (c.self.invariant.0, core_after _ _ _ refl (load_cq_tail_goes _ c.load_tail.new.self c.load_tail.result c.load_tail.ensures.answer c.load_tail.ensures.shows c.load_tail.ensures.room c.load_tail.ensures.memory) c.self.invariant.1)

pub returns-clause-fits : goal.returns-clause-fits
returns-clause-fits c = rw (← c.self.view_is) (load_cq_tail_goes _ c.load_tail.new.self c.load_tail.result c.load_tail.ensures.answer c.load_tail.ensures.shows c.load_tail.ensures.room c.load_tail.ensures.memory)
