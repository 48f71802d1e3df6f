use Rattle.std.proofs.Common.{neg_ℤ, pos, refl, sym, ap, ◌∙◌}
use Rattle.uring_ffi_values.proofs.Common.{ENOMEM, Some, false≢true}
use Rattle.uring_ffi_values.proofs.Exits.{apart, at_some, both_some, known_lost, not_empty, not_lost, some_not_none}
use Rattle.uring_ffi_values.specs.Machines.Crashing.{IsFoldedMachine}
use Rattle.uring_crash_machine.specs.Logs.{AreWhollyFolded}
use Rattle.uring_ffi_values.proofs.machines.crash_machine_memory.crash_machine_fold_in.Goals as goal

pub returns-then-is_lost : goal.returns-then-is_lost
returns-then-is_lost g c = record { empty = (apart _ _ refl, some_not_none _ _ c.is_lost.ensures.lost); lost = (λ _. known_lost _ _ c.is_lost.ensures.lost c.if-is_lost.true, λ _. refl); results = λ _ _ lost. absurd (lost refl); refused = λ _ _. c.is_lost.ensures.kept; folded = λ _ lost. absurd (lost refl); none_left = apart _ _ refl; granted = λ _. apart _ _ refl }

pub returns-in_default : goal.returns-in_default
returns-in_default g c =
    let full = sym c.is_lost.ensures.kept ∙ c.take_full-machine.ensures.taken ∙ ap Some (sym c.deref_mut.ensures.value) in
    record { empty = not_empty _ _ (neg_ℤ ENOMEM) full refl; lost = (apart _ _ refl, not_lost _ _ c.is_lost.ensures.lost c.if-is_lost.false); results = λ _ _ _. refl; refused = λ _ memory. absurd (memory refl); folded = λ _ _. both_some IsFoldedMachine _ _ _ _ full c.put.ensures c.in_default.ensures.folded; none_left = apart _ _ refl; granted = λ all _. false≢true (c.in_default.ensures.granted all) }

pub returns : goal.returns
returns g c =
    let full = sym c.is_lost.ensures.kept ∙ c.take_full-machine.ensures.taken ∙ ap Some (sym c.deref_mut.ensures.value) in
    record { empty = not_empty _ _ (pos 0) full refl; lost = (apart _ _ refl, not_lost _ _ c.is_lost.ensures.lost c.if-is_lost.false); results = λ done. absurd (done refl); refused = λ done. absurd (done refl); folded = λ _ _. both_some IsFoldedMachine _ _ _ _ full c.put.ensures c.in-Ok.ensures.folded; none_left = λ _. at_some (λ now. AreWhollyFolded now.logs) _ _ c.put.ensures c.in-Ok.ensures.none_left; granted = λ _. apart _ _ refl }
