use Rattle.std.proofs.Common.{◌<◌, ◌≤◌, ◌+◌, max, length, sym, subst, inl, inr, arith}
use Rattle.uring_volume.specs.declared.kept.Kept.{Kept}
use Rattle.uring_volume.proofs.Skipping.{of_take_more}
use Rattle.uring_volume.proofs.listing.first_from.Goals as goal
use Rattle.uring_volume.proofs.listing.first_from.Goals.{then-from-end, else-from-end}

pub loop-k-preserved : goal.loop-k-preserved
loop-k-preserved c = record {
  from = elim c.if-from-end.branch [
    | then-from-end w ↦ omega (arith, w.at-is, w.min-at.ensures, w.max.ensures, c.loop-k.invariant.from)
    | else-from-end w ↦ omega (arith, w.at-is, c.loop-k.invariant.from)
  ];
  none = λ k among less. elim (of_take_more c.args.kept.now c.loop-k.k-index k c.k-item.result c.loop-k-test.true c.k-item.is among) [
    | inl old ↦
        let was = c.loop-k.invariant.none k old less in
        elim c.if-from-end.branch [
          | then-from-end w ↦ omega (arith, was, w.at-is, w.min-at.ensures)
          | else-from-end w ↦ omega (arith, was, w.at-is)
        ]
    | inr same ↦
        subst (λ (x : Kept). c.args.from < x.piece.off + length x.piece.bytes → c.if-from-end.at ≤ max x.piece.off c.args.from) (sym same) (λ here.
        elim c.if-from-end.branch as (λ _. c.if-from-end.at ≤ max c.k-item.result.piece.off c.args.from) [
          | then-from-end w ↦ omega (arith, w.at-is, w.min-at.ensures, w.max.ensures, w.off.ensures)
          | else-from-end w ↦ absurd (omega (arith, here, w.if-from-end.false, c.end.ensures.value))
        ]) less
  ];
}
