use Rattle.std.proofs.Common.{rules, ◌≡◌, ◌==◌, true, false, ap, sym, ◌∙◌, subst, arith}
use Rattle.std.specs.Prelude.{◌&&◌}
use Rattle.uring_volume.proofs.Common.{IsIn, is_before, list_any}
use Rattle.uring_volume.specs.Past.{Past, was_done}
use Rattle.uring_volume.proofs.KeptTells.{before_kept, before_unkept}
use Rattle.uring_volume.proofs.past.Past.is_before.Goals as goal

pub returns-then-has_number : goal.returns-then-has_number
returns-then-has_number c =
    let p : Past = record { history = c.self.inside.told.value.history; next = c.self.inside.next; kept = c.self.inside.kept.items; write_list = c.self.inside.writes.items; syncs = c.self.inside.syncs.items; ends = c.self.inside.ends.items } in
    let k = c.in-Some.k.now in
    let among : IsIn k p.kept = subst (λ ks. IsIn k ks) c.deref.ensures.value c.in-Some.ensures.found.0 in
    let there : list_any (λ x. x.piece.number == c.args.n) p.kept ≡ true = ap (λ ks. list_any (λ x. x.piece.number == c.args.n) ks) (sym c.deref-in-Some.ensures.value) ∙ sym c.has_number.ensures ∙ c.if-has_number.true in
    c.was_done.ensures
    ∙ ap (λ b. b && was_done k c.args.n) (sym there)
    ∙ sym (before_kept p k c.args.n c.self.invariant.is among)
    ∙ ap (λ m. is_before p.history m c.args.n) c.in-Some.ensures.found.1
    ∙ ap (λ (q : Past). is_before q.history c.args.m c.args.n) c.self.view_is

pub returns-else-has_number : goal.returns-else-has_number
returns-else-has_number c =
    let p : Past = record { history = c.self.inside.told.value.history; next = c.self.inside.next; kept = c.self.inside.kept.items; write_list = c.self.inside.writes.items; syncs = c.self.inside.syncs.items; ends = c.self.inside.ends.items } in
    let k = c.in-Some.k.now in
    let among : IsIn k p.kept = subst (λ ks. IsIn k ks) c.deref.ensures.value c.in-Some.ensures.found.0 in
    let none : list_any (λ x. x.piece.number == c.args.n) p.kept ≡ false = ap (λ ks. list_any (λ x. x.piece.number == c.args.n) ks) (sym c.deref-in-Some.ensures.value) ∙ sym c.has_number.ensures ∙ c.if-has_number.false in
    c.if-has_number.false
    ∙ ap (λ b. b && was_done k c.args.n) (sym none)
    ∙ sym (before_kept p k c.args.n c.self.invariant.is among)
    ∙ ap (λ m. is_before p.history m c.args.n) c.in-Some.ensures.found.1
    ∙ ap (λ (q : Past). is_before q.history c.args.m c.args.n) c.self.view_is

pub returns-in-None : goal.returns-in-None
returns-in-None c =
    let p : Past = record { history = c.self.inside.told.value.history; next = c.self.inside.next; kept = c.self.inside.kept.items; write_list = c.self.inside.writes.items; syncs = c.self.inside.syncs.items; ends = c.self.inside.ends.items } in
    let none : list_any (λ x. x.piece.number == c.args.m) c.deref.result.now ≡ false = first_of (search rules, grind (arith, c.in-None.ensures.none)) in
    sym (before_unkept p c.args.m c.args.n c.self.invariant.is (ap (λ ks. list_any (λ x. x.piece.number == c.args.m) ks) (sym c.deref.ensures.value) ∙ none))
    ∙ ap (λ (q : Past). is_before q.history c.args.m c.args.n) c.self.view_is
