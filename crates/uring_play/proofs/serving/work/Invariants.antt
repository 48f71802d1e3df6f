use Rattle.uring_play.specs.Threads.{StaysWorker}
use Rattle.uring_play.proofs.serving.work.Given as goal

abbrev pub invariant-loop : goal.invariant-loop
invariant-loop g l = record {
  next : (goal.iterator-loop g).can_next l.iterator';
  finite : (goal.iterator-loop g).is_finite l.iterator';
  stays : StaysWorker l.fn.worker l.worker;
}
