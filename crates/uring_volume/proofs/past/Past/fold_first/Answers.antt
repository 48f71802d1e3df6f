use Rattle.std.proofs.Common.{arith, rules, ◌≡◌, true, false, ap, ◌∙◌, sym, subst}
use Rattle.uring_volume.proofs.Common.{IsIn, can_fold, is_done, issued, list_any, without_write}
use Rattle.uring_volume.specs.Past.{Past, can_be_folded}
use Rattle.uring_volume.proofs.KeptTells.{can_fold_kept, kept_issued, none_fold_kept, over_kept}
use Rattle.uring_volume.proofs.Fitting.{ended_done, safe_ended}
use Rattle.uring_volume.proofs.past.Past.fold_first.Goals as goal

pub returns-in_default-clause-none : goal.returns-in_default-clause-none
returns-in_default-clause-none g c = λ _.
    let p : Past = record { history = c.self.inside.told.value.history; next = c.self.inside.next; kept = c.self.inside.kept.items; write_list = c.self.inside.writes.items; syncs = c.self.inside.syncs.items; ends = c.self.inside.ends.items } in
    let none : list_any (λ k. can_be_folded c.deref.result.now k) c.deref.result.now ≡ false = first_of (search rules, grind (arith, c.in_default.ensures.none, c.in_default.not-Some)) in
    subst (λ (q : Past). list_any (λ w. can_fold q.history w) (issued q.history) ≡ false) c.self.view_is
    (none_fold_kept p c.self.invariant.is (subst (λ ks. list_any (λ k. can_be_folded ks k) ks ≡ false) c.deref.ensures.value none))

pub forget-requires : goal.forget-requires
forget-requires g c =
    let p : Past = record { history = c.self.inside.told.value.history; next = c.self.inside.next; kept = c.self.inside.kept.items; write_list = c.self.inside.writes.items; syncs = c.self.inside.syncs.items; ends = c.self.inside.ends.items } in
    let k = c.in-Some.k.now in
    let among : IsIn k p.kept = subst (λ ks. IsIn k ks) c.deref.ensures.value c.in-Some.ensures.found.0 in
    let can : can_be_folded p.kept k ≡ true = subst (λ ks. can_be_folded ks k ≡ true) c.deref.ensures.value c.in-Some.ensures.found.1 in
    let fold = over_kept p k c.self.invariant.is among can in
    subst (λ (q : Past). is_done q.history c.number-n.result ≡ true) c.self.view_is
    (subst (λ m. is_done p.history m ≡ true) (sym c.number-n.ensures) (ended_done p.history k.piece.number (safe_ended p.history k.piece fold.safe)))

pub returns-clause-folded : goal.returns-clause-folded
returns-clause-folded g c = λ _.
    let p : Past = record { history = c.self.inside.told.value.history; next = c.self.inside.next; kept = c.self.inside.kept.items; write_list = c.self.inside.writes.items; syncs = c.self.inside.syncs.items; ends = c.self.inside.ends.items } in
    let k = c.in-Some.k.now in
    let among : IsIn k p.kept = subst (λ ks. IsIn k ks) c.deref.ensures.value c.in-Some.ensures.found.0 in
    let can : can_be_folded p.kept k ≡ true = subst (λ ks. can_be_folded ks k ≡ true) c.deref.ensures.value c.in-Some.ensures.found.1 in
    record {
      write = k.piece;
      issued = subst (λ (q : Past). IsIn k.piece (issued q.history)) c.self.view_is (kept_issued p k c.self.invariant.is among);
      can = subst (λ (q : Past). can_fold q.history k.piece ≡ true) c.self.view_is (can_fold_kept p k c.self.invariant.is among ∙ can);
      over = c.in_ok-write_under.ensures.over;
      without = c.forget.ensures.history ∙ ap (λ n. without_write n c.args.self.now.history) c.number-n.ensures;
    }
