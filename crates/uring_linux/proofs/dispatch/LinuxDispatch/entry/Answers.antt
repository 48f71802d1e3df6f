use Rattle.std.proofs.Common.{sym, ◌∙◌, ap, subst, Some, None}
use Rattle.uring_linux.proofs.Common.{LinuxDispatch, ShowsRequests, entry_of, if◌then◌else◌}
use Rattle.uring_linux.proofs.Standings.{shown, outside_ended, outstanding_ended, outstanding_going}
use Rattle.uring_linux.proofs.dispatch.LinuxDispatch.entry.Goals as goal

pub returns-in_default : goal.returns-in_default
returns-in_default c = λ l g.
    let h = shown c.self.inside.window c.self.inside.drains c.self.inside.has_skipped c.self.inside.room c.self.inside.is_between_calls l (subst (λ (d : LinuxDispatch). ShowsRequests d l) (sym c.self.view_is) g) in
    sym (ap (λ b. if b then Some (entry_of l.requests c.args.n) else None) (outside_ended _ l.requests c.args.n h c.in_default.ensures))

pub returns-then-request : goal.returns-then-request
returns-then-request c = λ l g.
    let h = shown c.self.inside.window c.self.inside.drains c.self.inside.has_skipped c.self.inside.room c.self.inside.is_between_calls l (subst (λ (d : LinuxDispatch). ShowsRequests d l) (sym c.self.view_is) g) in
    let t = h.told c.args.n c.in-Some.request.now (sym c.in-Some.ensures) in
    sym (ap (λ b. if b then Some (entry_of l.requests c.args.n) else None) (outstanding_ended _ l.requests c.args.n t c.if-request.true))

pub returns : goal.returns
returns c = λ l g.
    let h = shown c.self.inside.window c.self.inside.drains c.self.inside.has_skipped c.self.inside.room c.self.inside.is_between_calls l (subst (λ (d : LinuxDispatch). ShowsRequests d l) (sym c.self.view_is) g) in
    let t = h.told c.args.n c.in-Some.request.now (sym c.in-Some.ensures) in
    ap Some t.entry
    ∙ sym (ap (λ b. if b then Some (entry_of l.requests c.args.n) else None) (outstanding_going _ _ l.requests c.args.n h (sym c.in-Some.ensures) c.if-request.false))
