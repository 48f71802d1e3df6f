-- Lawful histories and moves give calls the same outcomes, by the manual pages' rules.
use Rattle.std.specs.Prelude.{◌≡◌, ◌-◌, ◌^◌, ◌≤◌, ℕ, false, List, length, All}
use Rattle.uring_entry.specs.Setup.{Setup, IsWithinLimits}
use Rattle.uring_entry.specs.Submission.{Published, IsItem}
use Rattle.uring_core.specs.Histories.{world}
use Rattle.uring_outcomes.specs.CallOutcomes.{CallsOutcome, IsOutcomeOf, IsMovedTo, items_in}

-- each outcome of calls is one that moves give them
abbrev pub HistoriesAreMoves : Setup → Type 0
HistoriesAreMoves g =
    (calls : List (List Published)) (o : CallsOutcome) → IsOutcomeOf g calls o → IsMovedTo g calls o

-- a call that goes through a ring of this size at once: of at most so many items
pub record GoesThrough (size : ℕ) (call : List Published) : Type 0 where
  pub few : length call ≤ size
  pub are_items : All (IsItem size) call

-- calls that a ring takes in whole: it goes on after an entry with a fault, its rules are the manual pages', each call goes through it at once, and the numbers aren't spent
pub record AreTakenWhole (g : Setup) (calls : List (List Published)) : Type 0 where
  pub limits : IsWithinLimits g
  pub goes_on : g.stops ≡ false
  pub manual : g.linux ≡ false
  pub fit : All (GoesThrough g.sq) calls
  pub unspent : length (items_in calls) ≤ 2 ^ 63 - 1

-- What moves give calls that a ring takes in whole, some history comes to, in which the application reaped all that was posted.
pub record IsPlayed (g : Setup) (calls : List (List Published)) (o : CallsOutcome) : Type 0 where
  pub outcome : IsOutcomeOf g calls o
  pub reaped : (world g outcome.history).completions.reaped ≡ o.posted

abbrev pub MovesAreHistories : Setup → Type 0
MovesAreHistories g = (calls : List (List Published)) (o : CallsOutcome) → AreTakenWhole g calls
    → IsMovedTo g calls o → IsPlayed g calls o
