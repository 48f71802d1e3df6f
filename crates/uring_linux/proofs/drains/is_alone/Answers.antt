use Rattle.std.proofs.Common.{not, ◌&&◌, length, sym, ◌∙◌, ap, arith}
use Rattle.uring_linux.proofs.Common.{and_from, has_ended, is_alone, is_in_some, some_below_none, some_below_some}
use Rattle.uring_linux.proofs.drains.is_alone.Goals as goal

pub returns-then-not-is_in_some : goal.returns-then-not-is_in_some
unfolding is_alone
returns-then-not-is_in_some c = λ r s.
    sym
    (ap not
    (some_below_some (λ k. not (has_ended r k) && not (is_in_some c.args.groups.now.items k)) (length r.accepted) c.loop-n.n (omega (arith, s.count))
    (and_from _ _ (sym (c.passes.ensures r s (record { low = omega arith; high = omega arith })) ∙ c.if-passes.true)
    (ap not (sym c.is_in_some.ensures ∙ c.if-not-is_in_some.true)))))

pub returns : goal.returns
unfolding is_alone
returns c = λ r s.
    sym
    (ap not
    (some_below_none (λ k. not (has_ended r k) && not (is_in_some c.args.groups.now.items k)) (length r.accepted)
    (λ k lt. c.loop-n.invariant r s k (omega (arith, s.count)))))
