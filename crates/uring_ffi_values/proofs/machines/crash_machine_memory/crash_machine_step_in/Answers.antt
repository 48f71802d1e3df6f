use Rattle.std.proofs.Common.{refl, sym, ap, ◌∙◌}
use Rattle.uring_ffi_values.proofs.Common.{IsLostFrom, Some, false≢true}
use Rattle.uring_ffi_values.proofs.Exits.{apart, both_some, is_some_as, known_lost, known_ready, not_none, some_not_none, step_goes, step_told}
use Rattle.uring_ffi_values.proofs.Refusals.{crash_unrefused}
use Rattle.uring_ffi_values.proofs.machines.crash_machine_memory.crash_machine_step_in.Goals as goal

pub returns-then-is_lost : goal.returns-then-is_lost
returns-then-is_lost g c =
    let step = sym c.step.ensures ∙ c.in-Some.is in
    record { empty = (apart _ _ refl, some_not_none _ _ c.is_lost.ensures.lost); no_step = (apart _ _ refl, λ h. not_none _ _ step h.1); lost = (λ _. (is_some_as _ _ step, known_lost _ _ c.is_lost.ensures.lost c.if-is_lost.true), λ _. refl); results = λ _ _ _ lost. absurd (lost refl); refused = λ _. refl; kept = λ _ _. c.is_lost.ensures.kept; loses = apart _ _ refl; made = apart _ _ refl; granted = λ _. apart _ _ refl; unrefused = λ _. apart _ _ refl }

pub returns-in_default-made : goal.returns-in_default-made
returns-in_default-made g c =
    let full = sym c.is_lost.ensures.kept ∙ c.take_full-machine.ensures.taken ∙ ap Some (sym c.deref_mut.ensures.value) in
    let goes = step_goes _ _ _ _ _ _ full (sym c.step.ensures ∙ c.in-Some.is) c.is_lost.ensures.lost c.if-is_lost.false refl refl refl in
    record { empty = goes.0; no_step = goes.1; lost = goes.2; results = λ _ _ _ _. refl; refused = λ _. refl; kept = λ _ memory. absurd (memory refl); loses = λ _. both_some IsLostFrom _ _ _ _ full c.put.ensures c.in_default-made.ensures.err; made = apart _ _ refl; granted = λ all _. false≢true (c.in_default-made.ensures.granted all (known_ready _ _ _ full c.is_lost.ensures.lost c.if-is_lost.false)); unrefused = λ _. apart _ _ refl }

pub returns : goal.returns
returns g c =
    let full = sym c.is_lost.ensures.kept ∙ c.take_full-machine.ensures.taken ∙ ap Some (sym c.deref_mut.ensures.value) in
    let step = sym c.step.ensures ∙ c.in-Some.is in
    let goes = step_goes _ _ _ _ _ _ full step c.is_lost.ensures.lost c.if-is_lost.false refl refl refl in
    record { empty = goes.0; no_step = goes.1; lost = goes.2; results = λ done. absurd (done refl); refused = λ done. absurd (done refl); kept = λ done. absurd (done refl); loses = apart _ _ refl; made = λ _. step_told _ _ _ _ _ _ _ _ full c.put.ensures step c.answer_words.ensures c.in-Ok.ensures.made; granted = λ _. apart _ _ refl; unrefused = λ all _. crash_unrefused _ _ _ _ c.in-Some.step (sym full) step c.in-Ok.made _ c.answer_words.ensures c.in-Ok.ensures.unrefused all }
