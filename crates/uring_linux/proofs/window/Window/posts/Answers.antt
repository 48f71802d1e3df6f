use Rattle.std.proofs.Common.{rules, w32, ◌∙◌, ap, arith}
use Rattle.uring_linux.proofs.Common.{posts_as, to_z-of_z}
use Rattle.uring_linux.proofs.window.Window.posts.Goals as goal

pub returns : goal.returns
returns c = λ r s t m kept.
    let posts = rw (to_z-of_z w32 c.args.res (search rules)) at c.posts_after.ensures in
    let high = m.high in
    let within = m.told.group.accepted in
    let count = s.count in
    posts r c.args.n s t
    (λ k is. let w = c.breaker-breaker.ensures.within r k m is in let a = w.0 in let b = w.1 in record { low = omega arith; high = omega arith })
    ∙ ap (λ b. posts_as r b c.args.n c.args.res) (c.breaker-breaker.ensures.breaker r m)
