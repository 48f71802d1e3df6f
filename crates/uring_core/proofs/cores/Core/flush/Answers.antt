use Rattle.std.proofs.Common.{◌≡◌, ℕ, ◌-◌, refl, arith}
use Rattle.uring_core.proofs.Common.{Core, Cq, with_flushed}
use Rattle.uring_core.specs.declared.step.Step.TheVariants as step
use Rattle.uring_core.specs.declared.answer.Answer.TheVariants as answer
use Rattle.uring_core.proofs.CoreSteps.{CompletionStep, core_after}
use Rattle.uring_core.proofs.cores.Core.flush.Goals as goal

flush_goes : (p : Core) (q : Cq) (moved : ℕ)
    → CompletionStep p q (step.Flush, answer.Moved moved) (λ g l. moved ≡ (with_flushed g.cq l).put - l.put) (λ g l. with_flushed g.cq l)
flush_goes p q moved answered shown room memory h f = grind arith

pub invariant_of-self : goal.invariant_of-self
invariant_of-self c = (c.self.invariant.0, core_after _ _ _ refl (flush_goes _ c.flush.new.self c.flush.result c.flush.ensures.answer c.flush.ensures.shows c.flush.ensures.room c.flush.ensures.memory) c.self.invariant.1)

pub returns-clause-fits : goal.returns-clause-fits
returns-clause-fits c = rw (← c.self.view_is) (flush_goes _ c.flush.new.self c.flush.result c.flush.ensures.answer c.flush.ensures.shows c.flush.ensures.room c.flush.ensures.memory)
