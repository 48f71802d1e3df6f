use Rattle.std.proofs.Common.{◌≡◌, Option, refl, arith}
use Rattle.uring_core.proofs.Common.{Core, Cq, Cqe, after_reap, next_to_reap, reap_answer_of}
use Rattle.uring_core.specs.declared.step.Step.TheVariants as step
use Rattle.uring_core.proofs.CoreSteps.{CompletionStep, core_after}
use Rattle.uring_core.proofs.cores.Core.reap_next.Goals as goal

reap_goes : (p : Core) (q : Cq) (r : Option Cqe)
    → CompletionStep p q (step.Reap, reap_answer_of r) (λ g l. r ≡ next_to_reap l) (λ g l. after_reap l r)
reap_goes p q r answered shown room memory h f = grind arith

pub invariant_of-self : goal.invariant_of-self
invariant_of-self c = (c.self.invariant.0, core_after _ _ _ refl (reap_goes _ c.reap.new.self c.reap.result c.reap.ensures.answer c.reap.ensures.shows c.reap.ensures.room c.reap.ensures.memory) c.self.invariant.1)

pub returns-clause-fits : goal.returns-clause-fits
returns-clause-fits c = rw (← c.self.view_is) (reap_goes _ c.reap.new.self c.reap.result c.reap.ensures.answer c.reap.ensures.shows c.reap.ensures.room c.reap.ensures.memory)
