use Rattle.uring_play.specs.Threads.{StaysKernel}
use Rattle.uring_play.proofs.serving.dispatch.Given as goal

abbrev pub invariant-loop : goal.invariant-loop
invariant-loop g l = record {
  next : (goal.iterator-loop g).can_next l.iterator';
  finite : (goal.iterator-loop g).is_finite l.iterator';
  stays : StaysKernel l.fn.kernel l.kernel;
}
