use Rattle.std.proofs.Common.{rules, w32, arith, true, false, sym, refl, ◌≡◌, ◌∙◌, ap, subst, Some, None, Bool, ℕ}
use Rattle.uring_linux.proofs.Common.{LinuxDispatch, ShowsRequests, breaker_of, if◌then◌else◌, posts_after, to_z-of_z}
use Rattle.uring_dispatch.specs.declared.answers.Posts.TheVariants.{Completion, Nothing}
use Rattle.uring_linux.specs.Posting.{is_completion}
use Rattle.uring_linux.proofs.WindowEvents.{at_within}
use Rattle.uring_linux.proofs.Standings.{shown, outside_ended, outstanding_ended, outstanding_going}
use Rattle.uring_linux.proofs.dispatch.LinuxDispatch.would_post.Goals as goal

pub returns-in_default : goal.returns-in_default
returns-in_default c = λ l g.
    let h = shown c.self.inside.window c.self.inside.drains c.self.inside.has_skipped c.self.inside.room c.self.inside.is_between_calls l (subst (λ (d : LinuxDispatch). ShowsRequests d l) (sym c.self.view_is) g) in
    sym (ap (λ b. if b then Some (posts_after l.requests (breaker_of l.requests c.args.n) c.args.n c.args.res) else None) (outside_ended _ l.requests c.args.n h c.in_default.ensures))

pub returns-then-request : goal.returns-then-request
returns-then-request c = λ l g.
    let h = shown c.self.inside.window c.self.inside.drains c.self.inside.has_skipped c.self.inside.room c.self.inside.is_between_calls l (subst (λ (d : LinuxDispatch). ShowsRequests d l) (sym c.self.view_is) g) in
    let t = h.told c.args.n c.in-Some.request.now (sym c.in-Some.ensures) in
    sym (ap (λ b. if b then Some (posts_after l.requests (breaker_of l.requests c.args.n) c.args.n c.args.res) else None) (outstanding_ended _ l.requests c.args.n t c.if-request.true))

pub returns : goal.returns
returns c = λ l g.
    let h = shown c.self.inside.window c.self.inside.drains c.self.inside.has_skipped c.self.inside.room c.self.inside.is_between_calls l (subst (λ (d : LinuxDispatch). ShowsRequests d l) (sym c.self.view_is) g) in
    let here = sym c.in-Some.ensures in
    let t = h.told c.args.n c.in-Some.request.now here in
    let m = c.group_of-group.ensures.member l.requests c.args.n h here in
    let from = c.group_of-group.ensures.kept l.requests c.args.n h here in
    let inside = at_within _ c.args.n c.in-Some.request.now here in
    let posts = rw (to_z-of_z w32 c.args.res (search rules)) at c.posts_after-posts.ensures in
    let told = posts l.requests c.args.n h t (λ k is. let w = c.breaker-breaker.ensures.within l.requests k m is in let a = w.0 in let b = w.1 in let high = inside.high in record { low = omega (arith, a, from); high = omega (arith, b, high) }) in
    ap Some (c.is_completion.ensures ∙ ap is_completion told ∙ completion_is _ _ ∙ ap (λ b. posts_after l.requests b c.args.n c.args.res) (c.breaker-breaker.ensures.breaker l.requests m))
    ∙ sym (ap (λ b. if b then Some (posts_after l.requests (breaker_of l.requests c.args.n) c.args.n c.args.res) else None) (outstanding_going _ _ l.requests c.args.n h here c.if-request.false)) where
      completion_is : (b : Bool) (user_data : ℕ) → is_completion (if b then Completion user_data else Nothing) ≡ b
      completion_is true user_data = refl
      completion_is false user_data = refl
