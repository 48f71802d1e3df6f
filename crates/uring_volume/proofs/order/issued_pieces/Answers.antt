use Rattle.std.proofs.Common.{map, sym, ap, ◌∙◌, arith}
use Rattle.uring_volume.proofs.Common.{take_all}
use Rattle.uring_volume.proofs.Taking.{push_map}
use Rattle.uring_volume.proofs.KeptLists.{mapped_more}
use Rattle.uring_volume.proofs.order.issued_pieces.Goals as goal

pub loop-k-preserved : goal.loop-k-preserved
loop-k-preserved g c = record {
  pieces =
      push_map (λ p. p.now) _ _ _ _ c.push_reserved.ensures.items c.loop-k.invariant.pieces
      ∙ sym (mapped_more (λ k. k.piece) c.kept-kept.result.now c.loop-k.k-index c.k-item.result c.loop-k-test.true c.k-item.is);
  few = omega (arith, c.push_reserved.ensures.len, c.loop-k.invariant.few);
  room = omega (arith, c.push_reserved.ensures.capacity, c.loop-k.invariant.room);
}

pub returns-clause-pieces : goal.returns-clause-pieces
returns-clause-pieces g c =
    rw (take_all c.loop-k.k-index c.kept-kept.result.now c.loop-k-test.false) at c.loop-k.invariant.pieces
    ∙ ap (map (λ k. k.piece)) c.kept-kept.ensures
    ∙ c.is_past.ensures.pieces
