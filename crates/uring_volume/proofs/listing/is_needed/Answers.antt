use Rattle.std.proofs.Common.{◌&&◌, ap, sym, ◌∙◌}
use Rattle.uring_volume.proofs.Common.{and_from, and_left, and_right, goes_with, is_safe}
use Rattle.uring_volume.proofs.Seeking.{one_is, none_more}
use Rattle.uring_volume.proofs.IssuedWays.{ref_issued}
use Rattle.uring_volume.proofs.listing.is_needed.Goals as goal
use Rattle.uring_volume.proofs.listing.is_needed.Goals.{else-is_safe-via-else-is_safe, else-is_safe-via-then-is_safe+else-goes_with}

pub returns-then-goes_with : goal.returns-then-goes_with
returns-then-goes_with c =
    sym (one_is (λ p. p.now) (λ s. is_safe c.args.past.now.history s && goes_with c.args.past.now.history s.number c.args.piece.now) c.args.pieces.now c.loop-safe.safe-index c.safe-item.result c.loop-safe-test.true c.safe-item.is
    (and_from _ _ (sym c.is_safe.ensures ∙ c.if-is_safe.true) (ap (λ n. goes_with c.args.past.now.history n c.args.piece.now) (sym c.number.ensures) ∙ sym c.goes_with.ensures ∙ c.if-goes_with.true)))

pub loop-safe-preserved : goal.loop-safe-preserved
loop-safe-preserved c =
    none_more (λ p. p.now) (λ s. is_safe c.args.past.now.history s && goes_with c.args.past.now.history s.number c.args.piece.now) c.args.pieces.now c.loop-safe.safe-index c.safe-item.result c.loop-safe-test.true c.safe-item.is
    (elim c.else-is_safe.branch [
      | else-is_safe-via-else-is_safe w ↦ and_left _ _ (sym c.is_safe.ensures ∙ w.if-is_safe.false)
      | else-is_safe-via-then-is_safe+else-goes_with w ↦ and_right _ _ (ap (λ n. goes_with c.args.past.now.history n c.args.piece.now) (sym w.number.ensures) ∙ sym w.goes_with.ensures ∙ w.if-goes_with.false)
    ]) c.loop-safe.invariant

pub is_safe-requires : goal.is_safe-requires
is_safe-requires c = ref_issued (λ p. p.now) c.args.past.now.history c.args.pieces.now c.loop-safe.safe-index c.safe-item.result c.requires c.loop-safe-test.true c.safe-item.is
