use Rattle.std.proofs.Common.{sym, ◌∙◌, ap, subst, Some, None}
use Rattle.uring_linux.proofs.Common.{LinuxDispatch, ShowsRequests, entry_of, if◌then◌else◌, operation_of}
use Rattle.uring_linux.proofs.Standings.{shown, outside_idle}
use Rattle.uring_linux.proofs.dispatch.LinuxDispatch.running_op.Goals as goal

pub returns-in_default : goal.returns-in_default
returns-in_default c = λ l g.
    let h = shown c.self.inside.window c.self.inside.drains c.self.inside.has_skipped c.self.inside.room c.self.inside.is_between_calls l (subst (λ (d : LinuxDispatch). ShowsRequests d l) (sym c.self.view_is) g) in
    sym (ap (λ b. if b then Some (operation_of (entry_of l.requests c.args.n)) else None) (outside_idle _ l.requests c.args.n h c.in_default.ensures))

pub returns-then-not-request : goal.returns-then-not-request
returns-then-not-request c = λ l g.
    let h = shown c.self.inside.window c.self.inside.drains c.self.inside.has_skipped c.self.inside.room c.self.inside.is_between_calls l (subst (λ (d : LinuxDispatch). ShowsRequests d l) (sym c.self.view_is) g) in
    let t = h.told c.args.n c.in-Some.request.now (sym c.in-Some.ensures) in
    sym (ap (λ b. if b then Some (operation_of (entry_of l.requests c.args.n)) else None) (sym t.running ∙ c.if-not-request.true))

pub returns : goal.returns
returns c = λ l g.
    let h = shown c.self.inside.window c.self.inside.drains c.self.inside.has_skipped c.self.inside.room c.self.inside.is_between_calls l (subst (λ (d : LinuxDispatch). ShowsRequests d l) (sym c.self.view_is) g) in
    let t = h.told c.args.n c.in-Some.request.now (sym c.in-Some.ensures) in
    ap Some (c.of.ensures ∙ ap operation_of t.entry)
    ∙ sym (ap (λ b. if b then Some (operation_of (entry_of l.requests c.args.n)) else None) (sym t.running ∙ c.if-not-request.false))
