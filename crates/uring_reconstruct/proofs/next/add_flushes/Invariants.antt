use Rattle.std.proofs.Common.{ℕ, ◌<◌}
use Rattle.uring_reconstruct.proofs.Common.{Adds, Contains}
use Rattle.uring_core.specs.declared.step.Step.TheVariants as step
use Rattle.uring_core.specs.declared.answer.Answer.TheVariants as answer
use Rattle.uring_reconstruct.proofs.next.add_flushes.Given as goal

-- the flushes that move fewer are there
abbrev pub invariant-loop-moved : goal.invariant-loop-moved
invariant-loop-moved g l = record {
  adds : Adds l.core l.wanted l.fn.next.items l.next.items;
  below : (k : ℕ) → k < l.moved → Contains l.next.items (step.Flush, answer.Moved k);
}
