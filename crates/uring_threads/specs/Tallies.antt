-- What the dispatcher appends to its trace, and what is counted of it.
use Rattle.std.specs.Prelude.{◌≡◌, ℕ, ◌+◌, ◌≤◌, Bool, true, false, not, List, ◌++◌, length, map, count_by}
use Rattle.uring_core.specs.Histories.{Event, history_of}
use Rattle.uring_core.specs.declared.step.Step.{Step}
use Rattle.uring_core.specs.declared.step.Step.TheVariants as step
use Rattle.uring_core.specs.declared.answer.Answer.{Answer}
use Rattle.uring_core.specs.declared.answer.Answer.TheVariants as answer
use Rattle.uring_threads.specs.Kept.{Kept}
use Rattle.uring_threads.specs.Dealt.{done_by_worker}

-- the step of an event
abbrev pub step_of : Event → Step
step_of e = e.0

-- an item was staged: each has one word
abbrev pub stages_item : Event → Bool
stages_item (step.Index word, answer.Staged) = true
stages_item _ = false

-- a request was issued: it runs, or it ended at once
abbrev pub issues_request : Event → Bool
issues_request (step.Issue n, answer.Run) = true
issues_request (step.Issue n, answer.Ended res bytes) = true
issues_request _ = false

-- a request was started: it runs
abbrev pub starts_request : Event → Bool
starts_request (step.Issue n, answer.Run) = true
starts_request _ = false

-- a completion was reaped
abbrev pub reaps_completion : Event → Bool
reaps_completion (step.Reap, answer.Reaped completion) = true
reaps_completion _ = false

-- an end, with any result
abbrev pub is_end : Answer → Bool
is_end (answer.Ended res bytes) = true
is_end _ = false

-- a step was refused: an Index that stages no item, a Finish that ends no request, an Issue that neither starts nor ends one, or a Reap that takes no completion
abbrev pub is_refused : Event → Bool
is_refused (step.Index word, a) = not (stages_item (step.Index word, a))
is_refused (step.Finish n, a) = not (is_end a)
is_refused (step.Issue n, a) = not (issues_request (step.Issue n, a))
is_refused (step.Reap, a) = not (reaps_completion (step.Reap, a))
is_refused _ = false

-- The trace goes on with events of these steps, after all others. No item that it stages, no result that it takes in, no issue and no reap of them was refused.
pub record Appends (old new : Kept) (steps : List Step) : Type 0 where
  pub events : List Event
  pub trace : new.trace ≡ old.trace ++ events
  pub row : map step_of events ≡ steps
  pub served : count_by is_refused events ≡ 0
  pub room : old.room ≤ new.room
  pub setup : new.setup ≡ old.setup

-- The kinds of steps that are counted: an item is staged, a request issued, a result taken in, a completion reaped, a call begun, whether it opens or not, and the ring closed.

abbrev pub is_index : Step → Bool
is_index (step.Index word) = true
is_index _ = false

abbrev pub is_issue : Step → Bool
is_issue (step.Issue n) = true
is_issue _ = false

abbrev pub is_finish : Step → Bool
is_finish (step.Finish n) = true
is_finish _ = false

abbrev pub is_reap : Step → Bool
is_reap step.Reap = true
is_reap _ = false

abbrev pub is_begin : Step → Bool
is_begin (step.Begin count) = true
is_begin _ = false

abbrev pub is_close : Step → Bool
is_close step.Close = true
is_close _ = false

-- the ring was closed
abbrev pub closes_ring : Event → Bool
closes_ring e = is_close (step_of e)

-- How many steps there are of each of these kinds.
pub record Tally : Type 0 where
  pub items : ℕ
  pub issues : ℕ
  pub finishes : ℕ
  pub reaps : ℕ
  pub calls : ℕ
  pub closes : ℕ

abbrev pub tally_of : List Step → Tally
tally_of steps = record {
  items = count_by is_index steps;
  issues = count_by is_issue steps;
  finishes = count_by is_finish steps;
  reaps = count_by is_reap steps;
  calls = count_by is_begin steps;
  closes = count_by is_close steps;
}

-- The trace goes on with events of this tally. None of them was refused, so each counts what it says.
pub record Adds (old new : Kept) (t : Tally) : Type 0 where
  pub steps : List Step
  pub appends : Appends old new steps
  pub tally : tally_of steps ≡ t

-- both together
abbrev pub both : Tally → Tally → Tally
both t u = record {
  items = t.items + u.items;
  issues = t.issues + u.issues;
  finishes = t.finishes + u.finishes;
  reaps = t.reaps + u.reaps;
  calls = t.calls + u.calls;
  closes = t.closes + u.closes;
}

-- Tallies of one kind.

abbrev pub none_counted : Tally
none_counted = record { items = 0; issues = 0; finishes = 0; reaps = 0; calls = 0; closes = 0 }

abbrev pub items_counted : ℕ → Tally
items_counted n = record { items = n; issues = 0; finishes = 0; reaps = 0; calls = 0; closes = 0 }

abbrev pub issues_counted : ℕ → Tally
issues_counted n = record { items = 0; issues = n; finishes = 0; reaps = 0; calls = 0; closes = 0 }

abbrev pub finishes_counted : ℕ → Tally
finishes_counted n = record {
  items = 0;
  issues = 0;
  finishes = n;
  reaps = 0;
  calls = 0;
  closes = 0;
}

abbrev pub reaps_counted : ℕ → Tally
reaps_counted n = record { items = 0; issues = 0; finishes = 0; reaps = n; calls = 0; closes = 0 }

abbrev pub calls_counted : ℕ → Tally
calls_counted n = record { items = 0; issues = 0; finishes = 0; reaps = 0; calls = n; closes = 0 }

-- Results of one worker.

-- how many of them the dispatcher takes in at most in a turn: our own rule
abbrev pub most_results : ℕ
most_results = 64

-- how many the trace has taken in of this one, of so many workers
abbrev pub results_taken_in : ℕ → ℕ → Kept → ℕ
results_taken_in workers k kept =
    length (done_by_worker kept.setup workers k (history_of kept.trace))

-- Of each of so many workers at most 64 results more were taken in.
abbrev pub TakesFewResults : ℕ → Kept → Kept → Type 0
TakesFewResults workers old new =
    (k : ℕ) → results_taken_in workers k new ≤ results_taken_in workers k old + most_results
