use Rattle.std.proofs.Common.{true, sym, subst}
use Rattle.uring_linux.specs.LinuxDispatch.{LinuxDispatch, ShowsRequests}
use Rattle.uring_linux.specs.LinuxRequests.{with_cut}
use Rattle.uring_linux.proofs.LettingGo.{dispatch_left}
use Rattle.uring_linux.proofs.Dispatches.{dispatch_cut}
use Rattle.uring_linux.proofs.dispatch.LinuxDispatch.end_call.Goals as goal

pub returns-clause-shows : goal.returns-clause-shows
returns-clause-shows c = λ l h.
    dispatch_left c.close.new.self c.let_go.new.self c.end_call.new.self c.self.inside.has_skipped c.self.inside.room _ true _ (with_cut l) c.let_go.ensures.shows
    (dispatch_cut c.self.inside.window c.close.new.self c.self.inside.drains c.end_call.new.self c.self.inside.has_skipped c.self.inside.room c.self.inside.room c.self.inside.is_between_calls true l
    (subst (λ (d : LinuxDispatch). ShowsRequests d l) (sym c.self.view_is) h) c.close.ensures.shows c.end_call.ensures.drains)
