use Rattle.std.proofs.Common.{map, take, sym, ap, ◌∙◌, arith}
use Rattle.uring_volume.proofs.Common.{filter, is_on, take_all}
use Rattle.uring_volume.proofs.Taking.{fails, passes, push_map}
use Rattle.uring_volume.proofs.KeptLists.{mapped_more}
use Rattle.uring_volume.proofs.crash.pieces_on.Goals as goal
use Rattle.uring_volume.proofs.crash.pieces_on.Goals.{then-is_on, else-is_on}

pub loop-k-preserved : goal.loop-k-preserved
loop-k-preserved g c =
    elim c.if-is_on.branch [
      | then-is_on w ↦ record {
        pieces =
            ap (λ v. map (λ p. p.now) v.items) w.on-is
            ∙ push_map (λ p. p.now) _ _ _ _ w.push_reserved.ensures.items c.loop-k.invariant.pieces
            ∙ sym (ap (filter (is_on c.args.unit c.args.i)) (mapped_more (λ k. k.piece) c.kept-kept.result.now c.loop-k.k-index c.k-item.result c.loop-k-test.true c.k-item.is)
            ∙ passes (is_on c.args.unit c.args.i) (map (λ k. k.piece) (take c.loop-k.k-index c.kept-kept.result.now)) c.k-item.result.piece (sym c.is_on.ensures ∙ w.if-is_on.true));
        few = omega (arith, ap (λ v. v.len) w.on-is, w.push_reserved.ensures.len, c.loop-k.invariant.few);
        room = omega (arith, ap (λ v. v.cap) w.on-is, w.push_reserved.ensures.capacity, c.loop-k.invariant.room);
      }
      | else-is_on w ↦ record {
        pieces =
            ap (λ v. map (λ p. p.now) v.items) w.on-is
            ∙ c.loop-k.invariant.pieces
            ∙ sym (ap (filter (is_on c.args.unit c.args.i)) (mapped_more (λ k. k.piece) c.kept-kept.result.now c.loop-k.k-index c.k-item.result c.loop-k-test.true c.k-item.is)
            ∙ fails (is_on c.args.unit c.args.i) (map (λ k. k.piece) (take c.loop-k.k-index c.kept-kept.result.now)) c.k-item.result.piece (sym c.is_on.ensures ∙ w.if-is_on.false));
        few = omega (arith, ap (λ v. v.len) w.on-is, c.loop-k.invariant.few);
        room = omega (arith, ap (λ v. v.cap) w.on-is, c.loop-k.invariant.room);
      }
    ]

pub returns-clause-pieces : goal.returns-clause-pieces
returns-clause-pieces g c =
    rw (take_all c.loop-k.k-index c.kept-kept.result.now c.loop-k-test.false) at c.loop-k.invariant.pieces
    ∙ ap (λ ks. filter (is_on c.args.unit c.args.i) (map (λ k. k.piece) ks)) c.kept-kept.ensures
    ∙ ap (filter (is_on c.args.unit c.args.i)) c.is_past.ensures.pieces
