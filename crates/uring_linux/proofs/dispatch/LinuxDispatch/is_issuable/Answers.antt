use Rattle.std.proofs.Common.{not, ◌&&◌, sym, subst}
use Rattle.uring_linux.proofs.Common.{LinuxDispatch, ShowsRequests, goes_on, is_in_turn, is_outstanding, is_running}
use Rattle.uring_linux.proofs.Standings.{shown, busy_issuable}
use Rattle.uring_linux.proofs.dispatch.LinuxDispatch.is_issuable.Goals as goal

pub returns-then-not-is_idle : goal.returns-then-not-is_idle
returns-then-not-is_idle c = λ l g.
    busy_issuable (is_outstanding l.requests c.args.n) (not (is_running l.requests c.args.n)) (is_in_turn l.requests c.args.n && goes_on l c.args.n) (c.is_idle.ensures l.requests (shown c.self.inside.window c.self.inside.drains c.self.inside.has_skipped c.self.inside.room c.self.inside.is_between_calls l (subst (λ (d : LinuxDispatch). ShowsRequests d l) (sym c.self.view_is) g)) c.if-not-is_idle.true)
