use Rattle.std.proofs.Common.{rules, arith, ◌≡◌, ◌==◌, ◌+◌, true, false, length, ap, sym, subst, ◌∙◌}
use Rattle.uring_volume.proofs.Common.{IsIn, cond-true, cond-false, issued, length_over, list_any, named}
use Rattle.uring_volume.specs.Past.{Past}
use Rattle.uring_volume.proofs.KeptTells.{end_kept, end_unkept}
use Rattle.uring_volume.proofs.past.Past.end_of.Goals as goal

pub returns-then-is_empty : goal.returns-then-is_empty
returns-then-is_empty c =
    let p : Past = record { history = c.self.inside.told.value.history; next = c.self.inside.next; kept = c.self.inside.kept.items; write_list = c.self.inside.writes.items; syncs = c.self.inside.syncs.items; ends = c.self.inside.ends.items } in
    let k = c.in-Some.k.now in
    let among : IsIn k p.kept = subst (λ ks. IsIn k ks) c.deref.ensures.value c.in-Some.ensures.found.0 in
    let ends = end_kept p k c.args.n c.self.invariant.is among c.in-Some.ensures.found.1 in
    let empty : (length k.piece.bytes == 0) ≡ true = search rules in
    sym (ends ∙ cond-true (length k.piece.bytes == 0) 0 (k.piece.off + length k.piece.bytes) empty)
    ∙ ap (λ (q : Past). length_over 0 (named c.args.n (issued q.history))) c.self.view_is

pub returns-else-is_empty : goal.returns-else-is_empty
returns-else-is_empty c =
    let p : Past = record { history = c.self.inside.told.value.history; next = c.self.inside.next; kept = c.self.inside.kept.items; write_list = c.self.inside.writes.items; syncs = c.self.inside.syncs.items; ends = c.self.inside.ends.items } in
    let k = c.in-Some.k.now in
    let among : IsIn k p.kept = subst (λ ks. IsIn k ks) c.deref.ensures.value c.in-Some.ensures.found.0 in
    let ends = end_kept p k c.args.n c.self.invariant.is among c.in-Some.ensures.found.1 in
    let some : (length k.piece.bytes == 0) ≡ false = search rules in
    c.end.ensures.value
    ∙ sym (ends ∙ cond-false (length k.piece.bytes == 0) 0 (k.piece.off + length k.piece.bytes) some)
    ∙ ap (λ (q : Past). length_over 0 (named c.args.n (issued q.history))) c.self.view_is

pub returns-in-None : goal.returns-in-None
returns-in-None c =
    let p : Past = record { history = c.self.inside.told.value.history; next = c.self.inside.next; kept = c.self.inside.kept.items; write_list = c.self.inside.writes.items; syncs = c.self.inside.syncs.items; ends = c.self.inside.ends.items } in
    let none : list_any (λ x. x.piece.number == c.args.n) c.deref.result.now ≡ false = first_of (search rules, grind (arith, c.in-None.ensures.none)) in
    sym (end_unkept p c.args.n c.self.invariant.is (ap (λ ks. list_any (λ x. x.piece.number == c.args.n) ks) (sym c.deref.ensures.value) ∙ none))
    ∙ ap (λ (q : Past). length_over 0 (named c.args.n (issued q.history))) c.self.view_is
