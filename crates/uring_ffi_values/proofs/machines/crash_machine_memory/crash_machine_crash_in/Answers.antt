use Rattle.std.proofs.Common.{ℕ, List, map, neg_ℤ, pos, refl, sym, subst, ap, ◌∙◌}
use Rattle.uring_ffi_values.proofs.Common.{ENOMEM, Global, GoesOn, Some, Vec, cut, false≢true}
use Rattle.uring_ffi_values.proofs.Exits.{apart, both_some, known_lost, known_ready, not_empty, not_lost, some_not_none}
use Rattle.uring_ffi_values.proofs.machines.crash_machine_memory.crash_machine_crash_in.Goals as goal

pub returns-then-is_lost : goal.returns-then-is_lost
returns-then-is_lost g c = record { empty = (apart _ _ refl, some_not_none _ _ c.is_lost.ensures.lost); lost = (λ _. known_lost _ _ c.is_lost.ensures.lost c.if-is_lost.true, λ _. refl); results = λ _ _ lost. absurd (lost refl); kept = c.is_lost.ensures.kept; refused = λ _. refl; left = apart _ _ refl; granted = λ _. apart _ _ refl }

pub returns-in_default : goal.returns-in_default
returns-in_default g c = record { empty = (apart _ _ refl, some_not_none _ _ c.is_lost.ensures.lost); lost = (apart _ _ refl, not_lost _ _ c.is_lost.ensures.lost c.if-is_lost.false); results = λ _ _ _. refl; kept = c.is_lost.ensures.kept; refused = λ _. refl; left = apart _ _ refl; granted = λ all _. false≢true (c.in_default.ensures.granted all) }

pub returns-in_default-left : goal.returns-in_default-left
returns-in_default-left g c =
    let full = sym c.is_lost.ensures.kept ∙ c.take_full-machine.ensures.taken ∙ ap Some (sym c.deref.ensures) in
    record { empty = not_empty _ _ (neg_ℤ ENOMEM) full refl; lost = (apart _ _ refl, not_lost _ _ c.is_lost.ensures.lost c.if-is_lost.false); results = λ _ _ _. refl; kept = c.put.ensures ∙ sym c.take_full-machine.ensures.taken ∙ c.is_lost.ensures.kept; refused = λ _. refl; left = apart _ _ refl; granted = λ all _. false≢true (c.in_default-left.ensures.granted all (known_ready _ _ _ full c.is_lost.ensures.lost c.if-is_lost.false)) }

pub returns : goal.returns
returns g c =
    let full = sym c.is_lost.ensures.kept ∙ c.take_full-machine.ensures.taken ∙ ap Some (sym c.deref.ensures) in
    record { empty = not_empty _ _ (pos 0) full refl; lost = (apart _ _ refl, not_lost _ _ c.is_lost.ensures.lost c.if-is_lost.false); results = λ done. absurd (done refl); kept = c.put.ensures ∙ sym c.take_full-machine.ensures.taken ∙ c.is_lost.ensures.kept; refused = λ done. absurd (done refl); left = λ _. both_some (GoesOn (cut c.args.lens.now c.args.numbers.now)) _ _ _ _ full c.put-2.ensures (subst (λ (cs : List (List ℕ)). GoesOn cs c.deref.result.now c.in-Ok-left.left.value) (ap (map (λ (b : Vec ℕ Global). b.items)) c.deref-2.ensures.value ∙ c.in-Ok.ensures.parts) c.in-Ok-left.ensures.left); granted = λ _. apart _ _ refl }
