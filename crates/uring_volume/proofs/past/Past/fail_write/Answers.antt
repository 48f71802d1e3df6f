use Rattle.std.proofs.Common.{◌∷◌, arith, rules, refl, map, ap, ◌∙◌, sym, ◌≡◌, true}
use Rattle.uring_volume.proofs.Common.{WriteFailed, but, cond-true, is_one_of}
use Rattle.uring_volume.specs.Past.{Past, ended_at}
use Rattle.uring_volume.proofs.KeptLists.{changed_whole}
use Rattle.uring_volume.proofs.PastEvents.{carried_past, past_failure}
use Rattle.uring_volume.proofs.past.Past.fail_write.Goals as goal

pub invariant_of-self-then-is_running-2 : goal.invariant_of-self-then-is_running-2
invariant_of-self-then-is_running-2 c = record {
  room = omega (arith, c.self.invariant.room, c.take_out-is_running.ensures.len c.if-is_running.true);
  is =
      let p : Past = record { history = c.self.inside.told.value.history; next = c.self.inside.next; kept = c.self.inside.kept.items; write_list = c.self.inside.writes.items; syncs = c.self.inside.syncs.items; ends = c.self.inside.ends.items } in
      let runs : is_one_of c.args.n p.write_list ≡ true = sym c.take_out-is_running.ensures.found ∙ c.if-is_running.true in
      carried_past (record { history = WriteFailed c.args.n ∷ p.history; next = p.next; kept = map (ended_at c.args.n p.next true) p.kept; write_list = but c.args.n p.write_list; syncs = p.syncs; ends = p.ends }) _ _ _ _ _ _
      (past_failure p c.args.n c.self.invariant.is runs)
      (ap (λ t. t.history) c.tell.ensures) refl
      (changed_whole (ended_at c.args.n p.next true) c.end_all.new.kept c.self.inside.kept.items c.deref_mut.result.now c.self.inside.kept.len (search rules) c.deref_mut.ensures.value c.end_all.ensures)
      (c.take_out-is_running.ensures.items ∙ cond-true c.take_out-is_running.result (but c.args.n p.write_list) p.write_list c.if-is_running.true) refl refl;
}
