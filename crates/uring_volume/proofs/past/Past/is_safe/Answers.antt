use Rattle.std.proofs.Common.{rules, ◌≡◌, ◌==◌, false, ap, sym, ◌∙◌, subst, arith}
use Rattle.uring_volume.proofs.Common.{IsIn, is_safe, issued, list_any}
use Rattle.uring_volume.specs.Past.{Past}
use Rattle.uring_volume.proofs.KeptTells.{safe_by_number, safe_is_kept}
use Rattle.uring_volume.proofs.past.Past.is_safe.Goals as goal

pub returns-in-Some : goal.returns-in-Some
returns-in-Some c =
    let p : Past = record { history = c.self.inside.told.value.history; next = c.self.inside.next; kept = c.self.inside.kept.items; write_list = c.self.inside.writes.items; syncs = c.self.inside.syncs.items; ends = c.self.inside.ends.items } in
    let k = c.in-Some.k.now in
    let among : IsIn k p.kept = subst (λ ks. IsIn k ks) c.deref.ensures.value c.in-Some.ensures.found.0 in
    let known : IsIn c.args.piece.now (issued p.history) = subst (λ (q : Past). IsIn c.args.piece.now (issued q.history)) (sym c.self.view_is) c.requires in
    safe_by_number p k c.args.piece.now c.self.invariant.is among known (c.in-Some.ensures.found.1 ∙ c.number.ensures)
    ∙ ap (λ (q : Past). is_safe q.history c.args.piece.now) c.self.view_is

pub returns-in-None : goal.returns-in-None
returns-in-None c =
    let p : Past = record { history = c.self.inside.told.value.history; next = c.self.inside.next; kept = c.self.inside.kept.items; write_list = c.self.inside.writes.items; syncs = c.self.inside.syncs.items; ends = c.self.inside.ends.items } in
    let known : IsIn c.args.piece.now (issued p.history) = subst (λ (q : Past). IsIn c.args.piece.now (issued q.history)) (sym c.self.view_is) c.requires in
    let none : list_any (λ x. x.piece.number == c.number.result) c.deref.result.now ≡ false = first_of (search rules, grind (arith, c.in-None.ensures.none)) in
    absurd (safe_is_kept p c.args.piece.now c.self.invariant.is known (ap (λ n. list_any (λ x. x.piece.number == n) p.kept) (sym c.number.ensures) ∙ ap (λ ks. list_any (λ x. x.piece.number == c.number.result) ks) (sym c.deref.ensures.value) ∙ none))
