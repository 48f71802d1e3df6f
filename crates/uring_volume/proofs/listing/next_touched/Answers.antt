use Rattle.std.proofs.Common.{◌/◌, sym, subst, refl, arith}
use Rattle.uring_volume.proofs.Common.{IsIn, mul-div-le}
use Rattle.uring_volume.proofs.Skipping.{none_touched}
use Rattle.uring_volume.proofs.listing.next_touched.Goals as goal

pub returns-clause-none : goal.returns-clause-none
returns-clause-none c = λ j low high.
    let at = c.first_from-at.result in
    none_touched c.args.past.now c.args.unit c.args.i j _ at (at / c.args.unit) c.is_past.ensures c.requires.some low refl (omega (arith, high, c.min.ensures)) (mul-div-le at c.args.unit)
    (λ k among less. c.first_from-at.ensures.none k (subst (λ ks. IsIn k ks) (sym c.kept.ensures) among) less)
