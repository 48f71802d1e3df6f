use Rattle.std.proofs.Common.{not, ◌==◌, length, sym, ◌∙◌, ap, arith}
use Rattle.uring_linux.proofs.Common.{and_from, and_parts, entry_of, found_by, is_found, least_below_none, least_below_some, ne_eqb, user_data_of}
use Rattle.uring_linux.proofs.window.Window.found.Goals as goal

pub returns-then-passes : goal.returns-then-passes
unfolding found_by
returns-then-passes c = λ r s e.
    let parts = and_parts _ _ (sym (c.passes.ensures r s (record { low = omega arith; high = omega arith })) ∙ c.if-passes.true) in
    sym
    (least_below_some (is_found r c.args.n) (length r.accepted) c.loop-m.m (omega (arith, s.count))
    (and_from _ _ parts.0
    (and_from _ _ (ap not (ne_eqb c.loop-m.m c.args.n c.if-m-n.true))
    (ap (λ u. user_data_of (entry_of r c.loop-m.m) == u) (sym e) ∙ parts.1)))
    (c.loop-m.invariant r s e))

pub returns : goal.returns
unfolding found_by
returns c = λ r s e.
    sym
    (least_below_none (is_found r c.args.n) (length r.accepted)
    (λ k lt. c.loop-m.invariant r s e k (omega (arith, s.count))))
