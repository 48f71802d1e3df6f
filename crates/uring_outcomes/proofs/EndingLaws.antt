-- The law of `laws.rt`, by those of moves.
use Rattle.std.proofs.Common.{refl}
use Rattle.uring_entry.specs.Setup.{Setup}
use Rattle.uring_outcomes.proofs.OutcomeLaws.{histories_are_moves, moves_are_histories}
use Rattle.uring_outcomes.specs.Laws.{outcome_of, EndingsAreOutcomes}

pub endings_are_outcomes : (g : Setup) → EndingsAreOutcomes g
endings_are_outcomes g calls found whole all e = (
  λ there. (moves_are_histories g calls (outcome_of calls e) whole (record { leads = (all e).0 there; dropped_words = refl })).outcome,
  λ comes. (all e).1 (histories_are_moves g whole.manual calls (outcome_of calls e) comes).leads,
)
