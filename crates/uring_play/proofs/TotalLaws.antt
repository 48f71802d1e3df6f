-- What a trace says of its calls, event by event.
use Rattle.std.proofs.Common.{◌≡◌, arith, ℕ, ◌+◌, ◌<◌, List, [], ◌∷◌, ◌++◌, length, take, get_or, Some, refl}
use Rattle.std.specs.Prelude.{unwrap_or}
use Rattle.std.proofs.lemmas.List.{take_more}
use Rattle.uring_core.specs.Histories.{Event}
use Rattle.uring_core.specs.declared.answer.Answer.TheVariants as answer
use Rattle.uring_play.specs.Totals.{dropped_by, dropped_or, dropped_last}

dropped_append : (before : ℕ) (es : List Event) (e : Event)
    → dropped_or before (es ++ e ∷ []) ≡ unwrap_or (dropped_by e.1) (dropped_or before es)
dropped_append before [] e = refl
dropped_append before (d ∷ es) e = dropped_append (unwrap_or (dropped_by d.1) before) es e

-- an event that closes a call
pub closed_more : (trace : List Event) (i : ℕ) (e : Event) (count so : ℕ) → i < length trace
    → e ≡ get_or trace i e → dropped_by e.1 ≡ Some count → so ≡ count
    → so ≡ dropped_last (take (i + 1) trace)
closed_more trace i e count so lt is told s = rw (take_more trace i e lt, ← is, dropped_append 0 (take i trace) e, told) s

-- another event
pub other_more : (trace : List Event) (i : ℕ) (e : Event) (old so : ℕ) → i < length trace
    → e ≡ get_or trace i e
    → ((accepted dropped head : ℕ) → e.1 ≡ answer.Taken accepted dropped head → ⊥) → so ≡ old
    → old ≡ dropped_last (take i trace) → so ≡ dropped_last (take (i + 1) trace)
other_more trace i e old so lt is other s h = rw (take_more trace i e lt, ← is, dropped_append 0 (take i trace) e) (grind (arith, other, s, h))
