use Rattle.std.proofs.Common.{arith, rules, ◌≡◌, true, false, ap, ◌∙◌, sym, subst}
use Rattle.uring_volume.proofs.Common.{IsIn, is_done, issued, list_any, without_write}
use Rattle.uring_volume.specs.Past.{Past, can_be_let_go}
use Rattle.uring_volume.specs.Folds.{can_let_go}
use Rattle.uring_volume.proofs.Lengths.{before_done}
use Rattle.uring_volume.proofs.KeptTells.{can_let_go_kept, kept_issued, none_let_go_kept, under_kept}
use Rattle.uring_volume.proofs.past.Past.let_go_first.Goals as goal

pub returns-in_default-clause-none : goal.returns-in_default-clause-none
returns-in_default-clause-none c = λ _.
    let p : Past = record { history = c.self.inside.told.value.history; next = c.self.inside.next; kept = c.self.inside.kept.items; write_list = c.self.inside.writes.items; syncs = c.self.inside.syncs.items; ends = c.self.inside.ends.items } in
    let none : list_any (λ k. can_be_let_go c.deref.result.now k) c.deref.result.now ≡ false = first_of (search rules, grind (arith, c.in_default.ensures.none, c.in_default.not-Some)) in
    subst (λ (q : Past). list_any (λ w. can_let_go q.history w) (issued q.history) ≡ false) c.self.view_is
    (none_let_go_kept p c.self.invariant.is (subst (λ ks. list_any (λ k. can_be_let_go ks k) ks ≡ false) c.deref.ensures.value none))

pub forget-requires : goal.forget-requires
forget-requires c =
    let p : Past = record { history = c.self.inside.told.value.history; next = c.self.inside.next; kept = c.self.inside.kept.items; write_list = c.self.inside.writes.items; syncs = c.self.inside.syncs.items; ends = c.self.inside.ends.items } in
    let k = c.in-Some.k.now in
    let among : IsIn k p.kept = subst (λ ks. IsIn k ks) c.deref.ensures.value c.in-Some.ensures.found.0 in
    let can : can_be_let_go p.kept k ≡ true = subst (λ ks. can_be_let_go ks k ≡ true) c.deref.ensures.value c.in-Some.ensures.found.1 in
    let under = under_kept p k c.self.invariant.is among can in
    subst (λ (q : Past). is_done q.history c.number-n.result ≡ true) c.self.view_is
    (subst (λ m. is_done p.history m ≡ true) (sym c.number-n.ensures) (before_done p.history k.piece.number under.over.number under.before))

pub returns-clause-gone : goal.returns-clause-gone
returns-clause-gone c = λ _.
    let p : Past = record { history = c.self.inside.told.value.history; next = c.self.inside.next; kept = c.self.inside.kept.items; write_list = c.self.inside.writes.items; syncs = c.self.inside.syncs.items; ends = c.self.inside.ends.items } in
    let k = c.in-Some.k.now in
    let among : IsIn k p.kept = subst (λ ks. IsIn k ks) c.deref.ensures.value c.in-Some.ensures.found.0 in
    let can : can_be_let_go p.kept k ≡ true = subst (λ ks. can_be_let_go ks k ≡ true) c.deref.ensures.value c.in-Some.ensures.found.1 in
    record {
      write = k.piece;
      issued = subst (λ (q : Past). IsIn k.piece (issued q.history)) c.self.view_is (kept_issued p k c.self.invariant.is among);
      can = subst (λ (q : Past). can_let_go q.history k.piece ≡ true) c.self.view_is (can_let_go_kept p k c.self.invariant.is among ∙ can);
      without = c.forget.ensures.history ∙ ap (λ n. without_write n c.args.self.now.history) c.number-n.ensures;
    }
