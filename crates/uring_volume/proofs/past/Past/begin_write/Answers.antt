use Rattle.std.proofs.Common.{◌+◌, ◌++◌, [], ◌∷◌, refl, ap, arith}
use Rattle.uring_volume.proofs.Common.{Write, WriteIssued}
use Rattle.uring_volume.specs.Past.{Past}
use Rattle.uring_volume.proofs.PastEvents.{carried_past, new_kept, past_write}
use Rattle.uring_volume.proofs.past.Past.begin_write.Goals as goal

pub invariant_of-self-2 : goal.invariant_of-self-2
invariant_of-self-2 g c = record {
  room = omega (arith, c.in_ok-reserve-3.ensures.ok, c.reserve-3.ensures.items, c.push_reserved-2.ensures.len, c.reserve-2.ensures.items);
  is =
      let p : Past = record { history = c.self.inside.told.value.history; next = c.self.inside.next; kept = c.self.inside.kept.items; write_list = c.self.inside.writes.items; syncs = c.self.inside.syncs.items; ends = c.self.inside.ends.items } in
      let w : Write = c.new-piece.result in
      carried_past (record { history = WriteIssued w ∷ p.history; next = p.next + 1; kept = p.kept ++ new_kept w ∷ []; write_list = p.write_list ++ p.next ∷ []; syncs = p.syncs; ends = p.ends }) _ _ _ _ _ _
      (past_write p w c.self.invariant.is (ap (λ x. x.number) c.new-piece.ensures))
      (ap (λ t. t.history) c.tell_write.ensures) refl (cc (c.push_reserved.ensures.items, c.reserve.ensures.items, c.new.ensures)) (cc (c.push_reserved-2.ensures.items, c.reserve-2.ensures.items)) refl c.reserve-3.ensures.items;
}
