use Rattle.std.proofs.Common.{◌≡◌, ◌<◌, ◌≤◌, ◌+◌, ◌-◌, ◌/◌, suc, length, take, drop, subst, ap, arith}
use Rattle.uring_volume.specs.Images.{IsIn}
use Rattle.uring_volume.specs.declared.kept.Kept.{Kept}
use Rattle.uring_volume.proofs.Ascending.{asc_drop, asc_take}
use Rattle.uring_volume.proofs.kept.place.Goals as goal

pub loop-low-preserved-then-number-n : goal.loop-low-preserved-then-number-n
loop-low-preserved-then-number-n c =
    let mid = c.loop-low.low + (c.loop-low.high - c.loop-low.low) / 2 in
    let within : mid < length c.args.kept.now = omega (arith, c.loop-low.invariant.within, c.loop-low-test.true) in
    let less : c.index-kept-mid.result.piece.number < c.args.n = omega (arith, c.number.ensures, (ap (λ (z : Kept). z.piece.number) c.index-kept-mid.is), c.if-number-n.true) in
    let next : mid + 1 ≡ suc mid = omega arith in
    record {
      order = omega (arith, c.loop-low-test.true);
      within = c.loop-low.invariant.within;
      below = λ k among. asc_take c.args.kept.now mid c.args.n c.index-kept-mid.result k c.requires within c.index-kept-mid.is less (subst (λ i. IsIn k (take i c.args.kept.now)) next among);
      above = c.loop-low.invariant.above;
    }

pub loop-low-preserved : goal.loop-low-preserved
loop-low-preserved c =
    let mid = c.loop-low.low + (c.loop-low.high - c.loop-low.low) / 2 in
    let within : mid < length c.args.kept.now = omega (arith, c.loop-low.invariant.within, c.loop-low-test.true) in
    let low : c.args.n ≤ c.index-kept-mid.result.piece.number = omega (arith, c.number.ensures, (ap (λ (z : Kept). z.piece.number) c.index-kept-mid.is), c.if-number-n.false) in
    record {
      order = omega arith;
      within = omega (arith, within);
      below = c.loop-low.invariant.below;
      above = λ k among. asc_drop c.args.kept.now mid c.args.n c.index-kept-mid.result k c.requires within c.index-kept-mid.is low among;
    }

pub returns-clause-above : goal.returns-clause-above
returns-clause-above c =
    let same : c.loop-low.high ≡ c.loop-low.low = omega (arith, c.loop-low.invariant.order, c.loop-low-test.false) in
    subst (λ i. (k : Kept) → IsIn k (drop i c.args.kept.now) → c.args.n ≤ k.piece.number) same c.loop-low.invariant.above
