use Rattle.std.proofs.Common.{arith, rules, refl, ◌≡◌, ◌==◌, true, not, ap, sym, subst}
use Rattle.std.proofs.lemmas.Fn.{filter_same}
use Rattle.uring_volume.proofs.Common.{but, filter, is_done, without_write}
use Rattle.uring_volume.specs.Past.{Past}
use Rattle.uring_volume.proofs.PastEvents.{carried_past, past_without}
use Rattle.uring_volume.proofs.past.Past.forget.Goals as goal

pub invariant_of-self : goal.invariant_of-self
invariant_of-self c = record {
  room = omega (arith, c.self.invariant.room, c.retain-2.ensures.bound, c.retain-2.ensures.capacity);
  is =
      let p : Past = record { history = c.self.inside.told.value.history; next = c.self.inside.next; kept = c.self.inside.kept.items; write_list = c.self.inside.writes.items; syncs = c.self.inside.syncs.items; ends = c.self.inside.ends.items } in
      let gone : is_done p.history c.args.n ≡ true = subst (λ (q : Past). is_done q.history c.args.n ≡ true) (sym c.self.view_is) c.requires in
      carried_past (record { history = without_write c.args.n p.history; next = p.next; kept = filter (λ m. not (m.piece.number == c.args.n)) p.kept; write_list = p.write_list; syncs = p.syncs; ends = but c.args.n p.ends }) _ _ _ _ _ _
      (past_without p c.args.n c.self.invariant.is gone)
      (ap (λ t. t.history) c.leave_out.ensures) refl
      (filter_same _ (λ m. not (m.piece.number == c.args.n)) _ (λ x b f' k. search rules) _ _ c.retain.ensures.filtered) refl refl
      (filter_same _ (λ m. not (m == c.args.n)) _ (λ x b f' k. search rules) _ _ c.retain-2.ensures.filtered);
}
