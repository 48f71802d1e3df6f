use Rattle.std.proofs.Common.{rules, w32, true, not, sym, ◌∙◌, ap, subst, Some, None}
use Rattle.uring_linux.proofs.Common.{IsOpen, LinuxDispatch, ShowsRequests, and_right, if◌then◌else◌, option_copied, posts_of, to_z-of_z}
use Rattle.uring_linux.proofs.WindowCounts.{open_at}
use Rattle.uring_linux.proofs.Standings.{shown, outside_idle}
use Rattle.uring_linux.proofs.dispatch.LinuxDispatch.posted.Goals as goal

pub returns-in_default-clause-posted : goal.returns-in_default-clause-posted
returns-in_default-clause-posted c = λ l g.
    let h = shown c.self.inside.window c.self.inside.drains c.self.inside.has_skipped c.self.inside.room c.self.inside.is_between_calls l (subst (λ (d : LinuxDispatch). ShowsRequests d l) (sym c.self.view_is) g) in
    sym (ap (λ b. if b then Some (posts_of l.requests c.args.n c.args.res) else None) (outside_idle _ l.requests c.args.n h (ap option_copied (sym c.in_default.is) ∙ c.get.ensures)))

pub returns-then-not-request-clause-posted : goal.returns-then-not-request-clause-posted
returns-then-not-request-clause-posted c = λ l g.
    let h = shown c.self.inside.window c.self.inside.drains c.self.inside.has_skipped c.self.inside.room c.self.inside.is_between_calls l (subst (λ (d : LinuxDispatch). ShowsRequests d l) (sym c.self.view_is) g) in
    let t = h.told c.args.n c.in-Some.request.now (sym c.in-Some.ensures) in
    sym (ap (λ b. if b then Some (posts_of l.requests c.args.n c.args.res) else None) (sym t.running ∙ c.if-not-request.true))

pub returns-clause-posted : goal.returns-clause-posted
returns-clause-posted c = λ l g.
    let h = shown c.self.inside.window c.self.inside.drains c.self.inside.has_skipped c.self.inside.room c.self.inside.is_between_calls l (subst (λ (d : LinuxDispatch). ShowsRequests d l) (sym c.self.view_is) g) in
    let t = h.told c.args.n c.in-Some.request.now (sym c.in-Some.ensures) in
    let posts = rw (to_z-of_z w32 c.args.res (search rules)) at c.posts.ensures in
    let here = sym c.in-Some.ensures in
    ap Some (posts l.requests h t (c.group_of-group.ensures.member l.requests c.args.n h here) (c.group_of-group.ensures.kept l.requests c.args.n h here))
    ∙ sym (ap (λ b. if b then Some (posts_of l.requests c.args.n c.args.res) else None) (sym t.running ∙ c.if-not-request.false))

pub returns-then-request-clause-posted : goal.returns-then-request-clause-posted
returns-then-request-clause-posted c = λ l g.
    let h = shown c.self.inside.window c.self.inside.drains c.self.inside.has_skipped c.self.inside.room c.self.inside.is_between_calls l (subst (λ (d : LinuxDispatch). ShowsRequests d l) (sym c.self.view_is) g) in
    let t = h.told c.args.n c.in-Some.request.now (sym c.in-Some.ensures) in
    sym (ap (λ b. if b then Some (posts_of l.requests c.args.n c.args.res) else None) (and_right _ _ (ap not (sym t.ended ∙ c.if-request.true))))

pub returns-clause-open : goal.returns-clause-open
returns-clause-open c = λ p e.
    subst (λ (d : LinuxDispatch). IsOpen d.held.window c.args.n true) c.self.view_is
    (open_at c.self.inside.window c.args.n c.in-Some.request.now true (sym c.in-Some.ensures) c.if-request.false c.if-not-request.false)
