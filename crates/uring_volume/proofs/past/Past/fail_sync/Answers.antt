use Rattle.std.proofs.Common.{◌∷◌, rules, refl, ◌==◌, not, map, ap, ◌∙◌, sym, subst, ◌≡◌, true}
use Rattle.uring_volume.proofs.Common.{SyncFailed, filter, is_one_of, running_syncs}
use Rattle.uring_volume.specs.Past.{Past, given_up_by}
use Rattle.uring_volume.proofs.KeptLists.{changed_whole}
use Rattle.uring_volume.proofs.PastEvents.{carried_past, past_given_up}
use Rattle.uring_volume.proofs.KeptTells.{runs_there}
use Rattle.uring_volume.proofs.past.Past.fail_sync.Goals as goal

pub invariant_of-self-2 : goal.invariant_of-self-2
invariant_of-self-2 c = record {
  room = c.self.invariant.room;
  is =
      let p : Past = record { history = c.self.inside.told.value.history; next = c.self.inside.next; kept = c.self.inside.kept.items; write_list = c.self.inside.writes.items; syncs = c.self.inside.syncs.items; ends = c.self.inside.ends.items } in
      let s = c.in-Some.sync in
      carried_past (record { history = SyncFailed s.number ∷ p.history; next = p.next; kept = map (given_up_by s) p.kept; write_list = p.write_list; syncs = filter (λ t. not (t.number == s.number)) p.syncs; ends = p.ends }) _ _ _ _ _ _
      (past_given_up p s c.self.invariant.is c.in-Some.ensures.found.0)
      (ap (λ t. t.history) c.tell.ensures) refl
      (changed_whole (given_up_by s) c.give_all_up.new.kept c.self.inside.kept.items c.deref_mut.result.now c.self.inside.kept.len (search rules) c.deref_mut.ensures.value c.give_all_up.ensures)
      refl (c.in-Some.ensures.taken ∙ ap (λ n. filter (λ t. not (t.number == n)) p.syncs) (sym c.in-Some.ensures.found.1)) refl;
}

pub returns-clause-found : goal.returns-clause-found
returns-clause-found c =
    let p : Past = record { history = c.self.inside.told.value.history; next = c.self.inside.next; kept = c.self.inside.kept.items; write_list = c.self.inside.writes.items; syncs = c.self.inside.syncs.items; ends = c.self.inside.ends.items } in
    sym (subst (λ (q : Past). is_one_of c.args.s (running_syncs q.history) ≡ true) c.self.view_is (runs_there p c.in-Some.sync c.args.s c.self.invariant.is c.in-Some.ensures.found.0 c.in-Some.ensures.found.1))
