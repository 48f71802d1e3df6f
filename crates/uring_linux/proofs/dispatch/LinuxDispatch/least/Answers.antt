use Rattle.std.proofs.Common.{arith, not, sym, ◌∙◌, ap, subst}
use Rattle.uring_linux.proofs.Common.{LinuxDispatch, ShowsRequests, Unended, first_member, said}
use Rattle.uring_linux.proofs.MemberLemmas.{first_member_later}
use Rattle.uring_linux.proofs.Standings.{shown, least_is}
use Rattle.uring_linux.proofs.dispatch.LinuxDispatch.least.Goals as goal

pub returns : goal.returns
returns c = λ l g.
    let h = shown c.self.inside.window c.self.inside.drains c.self.inside.has_skipped c.self.inside.room c.self.inside.is_between_calls l (subst (λ (d : LinuxDispatch). ShowsRequests d l) (sym c.self.view_is) g) in
    c.first_with.ensures.first l.requests h c.least-from.ensures.low (omega arith)
    ∙ first_member_later (said Unended l.requests) c.self.inside.window.first c.least-from.result c.end-end.result c.least-from.ensures.low
    (λ k le lt. ap not (c.least-from.ensures.ended l.requests h k lt))
    ∙ ap (first_member (said Unended l.requests) c.self.inside.window.first) c.end-end.ensures.value
    ∙ least_is c.self.inside.window l.requests h
