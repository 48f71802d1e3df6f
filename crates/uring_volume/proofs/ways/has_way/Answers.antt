use Rattle.std.proofs.Common.{map, ap, sym, ◌∙◌}
use Rattle.uring_volume.specs.Ways.{way, same_way, same_write}
use Rattle.uring_volume.proofs.Common.{and_from, and_left, and_right, nat_eq, pointwise}
use Rattle.uring_volume.proofs.Seeking.{one_is, none_more}
use Rattle.uring_volume.proofs.ways.has_way.Goals as goal
use Rattle.uring_volume.proofs.ways.has_way.Goals.{else-eq-via-else-eq, else-eq-via-then-eq+else-are_same_writes}

pub returns-then-are_same_writes : goal.returns-then-are_same_writes
returns-then-are_same_writes c =
    sym (one_is (λ s. way (map (λ p. p.now) s.rest.items) s.now.items) (λ y. same_way y (way (map (λ p. p.now) c.args.rest.now) c.args.now.now)) c.args.ways.now c.loop-way.way-index c.way-item.result c.loop-way-test.true c.way-item.is
    (and_from _ _ (ap (λ bs. pointwise nat_eq bs c.args.now.now) (sym c.as_slice.ensures.value) ∙ sym c.eq.ensures ∙ c.if-eq.true)
    (ap (λ ps. pointwise same_write (map (λ p. p.now) ps) (map (λ p. p.now) c.args.rest.now)) (sym c.deref.ensures.value) ∙ sym c.are_same_writes.ensures ∙ c.if-are_same_writes.true)))

pub loop-way-preserved : goal.loop-way-preserved
loop-way-preserved c =
    none_more (λ s. way (map (λ p. p.now) s.rest.items) s.now.items) (λ y. same_way y (way (map (λ p. p.now) c.args.rest.now) c.args.now.now)) c.args.ways.now c.loop-way.way-index c.way-item.result c.loop-way-test.true c.way-item.is
    (elim c.else-eq.branch [
      | else-eq-via-else-eq w ↦ and_left _ _ (ap (λ bs. pointwise nat_eq bs c.args.now.now) (sym c.as_slice.ensures.value) ∙ sym c.eq.ensures ∙ w.if-eq.false)
      | else-eq-via-then-eq+else-are_same_writes w ↦ and_right _ _ (ap (λ ps. pointwise same_write (map (λ p. p.now) ps) (map (λ p. p.now) c.args.rest.now)) (sym w.deref.ensures.value) ∙ sym w.are_same_writes.ensures ∙ w.if-are_same_writes.false)
    ]) c.loop-way.invariant
