use Rattle.std.proofs.Common.{◌≡◌, map, refl, sym, subst}
use Rattle.uring_ffi_values.proofs.Common.{cut, false≢true}
use Rattle.uring_ffi_values.specs.Outcomes.Outcomes.{AreFound}
use Rattle.uring_ffi_values.specs.declared.outcomes.outcome_list.OutcomeList.{OutcomeList}
use Rattle.uring_ffi_values.proofs.Exits.{apart, at_some, fits_itself}
use Rattle.uring_ffi_values.proofs.Starts.{is_walk}
use Rattle.uring_ffi_values.proofs.outcomes.outcomes_memory.outcomes_new_in.Goals as goal

pub returns-in_default-walk : goal.returns-in_default-walk
returns-in_default-walk g c = record { refused = (apart _ _ refl, λ none. absurd (is_walk _ _ _ c.in-Some.ensures.0 c.in-Some.ensures.1 none)); results = λ _ _. refl; kept = λ _. (refl, refl); found = apart _ _ refl; granted = λ all _. false≢true (c.in_default-walk.ensures.granted all) }

pub returns-in_default-boxed : goal.returns-in_default-boxed
returns-in_default-boxed g c = record { refused = (apart _ _ refl, λ none. absurd (is_walk _ _ _ c.in-Some.ensures.0 c.in-Some.ensures.1 none)); results = λ _ _. refl; kept = λ _. (refl, refl); found = apart _ _ refl; granted = λ all _. false≢true (c.in_default-boxed.ensures.granted 1 (all 1) (fits_itself 1)) }

pub returns : goal.returns
returns g c =
    let P : OutcomeList → Type 0 = λ found. AreFound c.args.setup.now (cut c.args.lens.now (map (λ e. e.words) c.args.entries.now)) found × (c.in-Ok.found.is_all ≡ found.is_all) in
    record { refused = (apart _ _ refl, λ none. absurd (is_walk _ _ _ c.in-Some.ensures.0 c.in-Some.ensures.1 none)); results = λ done. absurd (done refl); kept = λ done. absurd (done refl); found = λ _. at_some P _ _ c.put.ensures (subst P (sym c.in-Ok-boxed.ensures.value) (c.in-Ok.ensures.found _ c.in-Some.ensures.0, refl)); granted = λ _. apart _ _ refl }

pub walk-requires : goal.walk-requires
walk-requires g c = c.in-Some.ensures.1.1
