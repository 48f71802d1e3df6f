use Rattle.std.proofs.Common.{◌≡◌, Result, Ok, Err, inl, inr, refl, sym, ◌∙◌, arith, rules}
use Rattle.std.proofs.lemmas.Bool.{true≢false}
use Rattle.uring_threads.specs.declared.opening.LanesFault.{LanesFault}
use Rattle.uring_threads.specs.declared.opening.LanesFault.TheVariants as fault
use Rattle.uring_threads.proofs.opening.check_ends.Goals as goal

not_stops : ◌≡◌ {A = Result (Unit {0}) LanesFault} (Err fault.Stops) (Err fault.BadWorkers) → ⊥
not_stops e = cc

not_ok : ◌≡◌ {A = Result (Unit {0}) LanesFault} (Ok tt) (Err fault.BadWorkers) → ⊥
not_ok e = cc

-- What the check would find by itself. Written down, a wrong body fails at once.
pub returns-then-count-eq0-clause-stops : goal.returns-then-count-eq0-clause-stops
returns-then-count-eq0-clause-stops c = search rules

pub returns-then-stops-clause-bad_workers : goal.returns-then-stops-clause-bad_workers
returns-then-stops-clause-bad_workers c =
    (λ e. absurd (not_stops e), λ h. absurd (true≢false (c.if-stops.ensures.value ∙ h.0)))

pub returns-then-count-eq0-clause-bad_workers : goal.returns-then-count-eq0-clause-bad_workers
returns-then-count-eq0-clause-bad_workers c =
    (λ e. (sym c.if-stops.ensures.value, elim c.then-count-eq0.either [ inl none ↦ inl none | inr many ↦ inr many.1 ]), λ h. refl)

pub returns-clause-bad_workers : goal.returns-clause-bad_workers
returns-clause-bad_workers c =
    (λ e. absurd (not_ok e), λ h. absurd (elim h.1 [ inl none ↦ c.if-count-eq0.false none | inr many ↦ absurd (omega arith) ]))
