use Rattle.std.proofs.Common.{◌&&◌, leb, sym, ◌∙◌, arith}
use Rattle.uring_linux.proofs.Common.{and_from, first_member, le-leb, least_below_none, least_below_some, said}
use Rattle.uring_linux.proofs.window.Window.first_with.Goals as goal

pub returns-then-passes-clause-first : goal.returns-then-passes-clause-first
unfolding first_member
returns-then-passes-clause-first c = λ r s a b.
    sym
    (least_below_some (λ m. leb c.args.from m && said c.args.test r m) c.args.end c.loop-n.n (omega arith)
    (and_from _ _ (le-leb c.args.from c.loop-n.n (omega arith))
    (sym (c.passes.ensures r s (record { low = omega arith; high = omega arith })) ∙ c.if-passes.true))
    (c.loop-n.invariant r s a b))

pub returns-clause-first : goal.returns-clause-first
unfolding first_member
returns-clause-first c = λ r s a b. sym (least_below_none (λ m. leb c.args.from m && said c.args.test r m) c.args.end (λ k lt. c.loop-n.invariant r s a b k (omega arith)))
