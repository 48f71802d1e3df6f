use Rattle.uring_play.specs.Threads.{OnlyReaps}
use Rattle.uring_play.proofs.ends.Application.goes_on.Given as goal

abbrev pub invariant-reaping : goal.invariant-reaping
invariant-reaping g l = OnlyReaps l.fn.self.app l.self.app
