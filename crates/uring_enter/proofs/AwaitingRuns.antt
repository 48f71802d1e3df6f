-- The law of the order in which requests end that a cancel waits for.
use Rattle.std.proofs.Common.{◌≡◌, ℕ, ◌<◌, true, [], ◌∷◌, List, arith}
use Rattle.std.proofs.lemmas.Bool.{false≢true}
use Rattle.uring_enter.specs.Cancels.Awaiting.{Look, HasSeen, HasEnded, EndsInOrder, is_run, next_of, was_seen}

-- the last bound holds for what was seen before
bound : (log : List Look) (one : ℕ) → is_run log ≡ true → was_seen log one ≡ true → one < next_of log
bound [] one run seen = absurd (false≢true seen)
bound (HasSeen number awaited ∷ earlier) one run seen = grind (arith, bound earlier)
bound (HasEnded ∷ earlier) one run seen = bound earlier one run seen

pub ends_in_order : EndsInOrder
ends_in_order log one next run seen may = grind (arith, bound log one run seen)
