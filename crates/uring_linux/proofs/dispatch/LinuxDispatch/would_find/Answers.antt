use Rattle.std.proofs.Common.{sym, subst}
use Rattle.uring_linux.specs.LinuxDispatch.{LinuxDispatch, ShowsRequests}
use Rattle.uring_linux.proofs.Standings.{shown}
use Rattle.uring_linux.proofs.dispatch.LinuxDispatch.would_find.Goals as goal

pub returns : goal.returns
returns c = λ l g.
    c.would_find.ensures l.requests
    (shown c.self.inside.window c.self.inside.drains c.self.inside.has_skipped c.self.inside.room c.self.inside.is_between_calls l (subst (λ (d : LinuxDispatch). ShowsRequests d l) (sym c.self.view_is) g))
