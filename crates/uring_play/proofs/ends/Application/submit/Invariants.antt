use Rattle.uring_play.specs.Threads.{OnlyReaps}
use Rattle.uring_play.proofs.ends.Application.submit.Given as goal

abbrev pub invariant-loop : goal.invariant-loop
invariant-loop g l = record {
  next : (goal.iterator-loop g).can_next l.iterator';
  finite : (goal.iterator-loop g).is_finite l.iterator';
  reaps : OnlyReaps l.fn.self.app l.self.app;
}
