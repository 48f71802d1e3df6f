use Rattle.std.proofs.Common.{◌≡◌, ◌-◌, suc, arith, sym, ◌∙◌, subst, false, map, drop}
use Rattle.uring_volume.proofs.Common.{has_safe, is_safe}
use Rattle.uring_volume.proofs.Taking.{last_safe, one_less, none_safe}
use Rattle.uring_volume.proofs.IssuedWays.{ref_issued}
use Rattle.uring_volume.proofs.order.count_up_to_safe.Goals as goal

pub returns-then-is_safe-clause-value : goal.returns-then-is_safe-clause-value
returns-then-is_safe-clause-value c =
    let next : c.loop-i.i ≡ suc (c.loop-i.i - 1) = omega arith in
    last_safe (λ p. p.now) c.args.past.now.history c.args.rest.now c.loop-i.i (c.loop-i.i - 1) c.index-rest-i.result next c.loop-i.invariant.within c.index-rest-i.is
    (sym c.is_safe.ensures ∙ c.if-is_safe.true) c.loop-i.invariant.none

pub loop-i-preserved : goal.loop-i-preserved
loop-i-preserved c = record {
  within = omega arith;
  none =
      let next : c.loop-i.i ≡ suc (c.loop-i.i - 1) = omega arith in
      one_less (λ p. p.now) (λ w. is_safe c.args.past.now.history w) c.args.rest.now c.loop-i.i (c.loop-i.i - 1) c.index-rest-i.result next c.loop-i.invariant.within c.index-rest-i.is
      (sym c.is_safe.ensures ∙ c.if-is_safe.false) c.loop-i.invariant.none;
}

pub returns-clause-value : goal.returns-clause-value
returns-clause-value c =
    let none_left : c.loop-i.i ≡ 0 = omega arith in
    sym (none_safe c.args.past.now.history (map (λ p. p.now) c.args.rest.now) (subst (λ i. has_safe c.args.past.now.history (drop i (map (λ p. p.now) c.args.rest.now)) ≡ false) none_left c.loop-i.invariant.none))

pub is_safe-requires : goal.is_safe-requires
is_safe-requires c = ref_issued (λ p. p.now) c.args.past.now.history c.args.rest.now (c.loop-i.i - 1) c.index-rest-i.result c.requires (omega (arith, c.loop-i.invariant.within)) c.index-rest-i.is
