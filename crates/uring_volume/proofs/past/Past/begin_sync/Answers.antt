use Rattle.std.proofs.Common.{◌+◌, ◌++◌, [], ◌∷◌, refl, ap}
use Rattle.uring_volume.proofs.Common.{SyncIssued}
use Rattle.uring_volume.specs.Past.{Past}
use Rattle.uring_volume.proofs.PastEvents.{carried_past, past_sync}
use Rattle.uring_volume.proofs.past.Past.begin_sync.Goals as goal

pub invariant_of-self-2 : goal.invariant_of-self-2
invariant_of-self-2 g c = record {
  room = c.self.invariant.room;
  is =
      let p : Past = record { history = c.self.inside.told.value.history; next = c.self.inside.next; kept = c.self.inside.kept.items; write_list = c.self.inside.writes.items; syncs = c.self.inside.syncs.items; ends = c.self.inside.ends.items } in
      carried_past (record { history = SyncIssued p.next c.args.range ∷ p.history; next = p.next + 1; kept = p.kept; write_list = p.write_list; syncs = p.syncs ++ (record { number = p.next; range = c.args.range }) ∷ []; ends = p.ends }) _ _ _ _ _ _
      (past_sync p c.args.range c.self.invariant.is)
      (ap (λ t. t.history) c.tell.ensures) refl refl refl (cc (c.push_reserved.ensures.items, c.reserve.ensures.items)) refl;
}
