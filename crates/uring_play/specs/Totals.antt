-- What a trace, in the order in which it happened, says of its calls in all. That these two numbers are told is our own rule.
use Rattle.std.specs.Prelude.{ℕ, List, [], ◌∷◌, Option, Some, None, sum_by, unwrap_or}
use Rattle.uring_core.specs.declared.answer.Answer.{Answer}
use Rattle.uring_core.specs.declared.answer.Answer.TheVariants as answer
use Rattle.uring_core.specs.Events.{accepted_by}
use Rattle.uring_core.specs.Histories.{Event}

-- how many requests were accepted by an event: those of the call that it closes, if it closes one
abbrev pub accepted_of : Event → ℕ
accepted_of event = unwrap_or (accepted_by event) 0

-- how many words the ring had dropped when the answer closed a call
abbrev pub dropped_by : Answer → Option ℕ
dropped_by (answer.Taken accepted dropped head) = Some dropped
dropped_by _ = None

-- how many requests all calls accepted
abbrev pub accepted_in : List Event → ℕ
accepted_in trace = sum_by accepted_of trace

-- the count of the last call that was closed, or this one if none was
abbrev pub dropped_or : ℕ → List Event → ℕ
dropped_or before [] = before
dropped_or before (e ∷ trace) = dropped_or (unwrap_or (dropped_by e.1) before) trace

-- how many words were dropped at the last close of a call, 0 if none was closed
abbrev pub dropped_last : List Event → ℕ
dropped_last trace = dropped_or 0 trace
