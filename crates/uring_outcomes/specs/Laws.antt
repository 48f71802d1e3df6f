-- What moves lead to is what lawful histories come to.
use Rattle.std.specs.Prelude.{◌↔◌, ◌%◌, ◌^◌, Contains, List, map}
use Rattle.uring_entry.specs.Setup.{Setup}
use Rattle.uring_entry.specs.Submission.{Published}
use Rattle.uring_outcomes.specs.CallOutcomes.{CallsOutcome, IsOutcomeOf, entries_in, bad_in, items_in}
use Rattle.uring_outcomes.specs.MoveLaws.{AreTakenWhole}
use Rattle.uring_outcomes.specs.Outcomes.{Ending, AreAllEndings}

-- the outcome of these calls that has this ending: every bad word was dropped
abbrev pub outcome_of : List (List Published) → Ending → CallsOutcome
outcome_of calls e = record {
  posted = e.posted;
  files = e.files;
  dropped = bad_in (items_in calls) % 2 ^ 32;
}

-- A list of all endings of the entries of calls that a ring takes in whole has what lawful histories come to with these calls, and nothing else.
abbrev pub EndingsAreOutcomes : Setup → Type 0
EndingsAreOutcomes g = (calls : List (List Published)) (found : List Ending) → AreTakenWhole g calls
    → AreAllEndings g (map entries_in calls) found
    → (e : Ending) → Contains found e ↔ IsOutcomeOf g calls (outcome_of calls e)
