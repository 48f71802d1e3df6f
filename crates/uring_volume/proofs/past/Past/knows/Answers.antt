use Rattle.std.proofs.Common.{◌≡◌, ◌==◌, true, false, map, ap, sym, subst, ◌∙◌}
use Rattle.std.specs.Prelude.{IfSome, IfNone}
use Rattle.uring_volume.proofs.Common.{IsIn, is_one_of, issued, list_any, or_left, running_syncs}
use Rattle.uring_volume.specs.Past.{Past}
use Rattle.uring_volume.specs.Volume.{is_known}
use Rattle.uring_volume.proofs.KeptTells.{known_kept, sync_known}
use Rattle.uring_volume.proofs.past.Past.knows.Goals as goal

pub returns-then-has_number : goal.returns-then-has_number
returns-then-has_number c =
    let p : Past = record { history = c.self.inside.told.value.history; next = c.self.inside.next; kept = c.self.inside.kept.items; write_list = c.self.inside.writes.items; syncs = c.self.inside.syncs.items; ends = c.self.inside.ends.items } in
    let there : list_any (λ k. k.piece.number == c.args.n) p.kept ≡ true = ap (λ ks. list_any (λ k. k.piece.number == c.args.n) ks) (sym c.deref.ensures.value) ∙ sym c.has_number.ensures ∙ c.if-has_number.true in
    sym (or_left (list_any (λ w. w.number == c.args.n) (issued p.history)) (is_one_of c.args.n (running_syncs p.history)) (known_kept p c.args.n c.self.invariant.is ∙ there))
    ∙ ap (λ (q : Past). is_known c.args.n q.history) c.self.view_is

pub returns : goal.returns
returns c =
    let p : Past = record { history = c.self.inside.told.value.history; next = c.self.inside.next; kept = c.self.inside.kept.items; write_list = c.self.inside.writes.items; syncs = c.self.inside.syncs.items; ends = c.self.inside.ends.items } in
    let none : list_any (λ k. k.piece.number == c.args.n) p.kept ≡ false = ap (λ ks. list_any (λ k. k.piece.number == c.args.n) ks) (sym c.deref.ensures.value) ∙ sym c.has_number.ensures ∙ c.if-has_number.false in
    c.is_some.ensures
    ∙ sync_known p c.find_sync.result c.args.n c.self.invariant.is none
    (subst (λ ss. IfSome c.find_sync.result (λ s. IsIn s ss × (s.number ≡ c.args.n))) c.deref-2.ensures.value c.find_sync.ensures.found)
    (subst (λ ss. IfNone c.find_sync.result (is_one_of c.args.n (map (λ s. s.number) ss) ≡ false)) c.deref-2.ensures.value c.find_sync.ensures.none)
    ∙ ap (λ (q : Past). is_known c.args.n q.history) c.self.view_is
