-- Glue. What a history has of operations: which started and which ended, in order.
use Rattle.std.specs.Prelude.{ℕ, List, [], ◌∷◌, Option, Some, None}
use Rattle.uring_entry.specs.Setup.{Setup}
use Rattle.uring_entry.specs.Requests.{Requests, operation_running}
use Rattle.uring_entry.specs.declared.operation.Op.{Op}
use Rattle.uring_core.specs.Histories.{Event, History, world}
use Rattle.uring_core.specs.declared.step.Step.TheVariants as step
use Rattle.uring_core.specs.declared.answer.Answer.TheVariants as answer
use Rattle.uring_effect_points.specs.declared.mark.Mark.{Mark}
use Rattle.uring_effect_points.specs.declared.mark.Mark.TheVariants.{Starts, Ends, Idle}

-- the start of this operation, if there is one
abbrev pub start_mark : ℕ → Option Op → Mark
start_mark n (Some op) = Starts n op
start_mark n None = Idle

-- what an event has of operations, by the requests after it
abbrev pub mark_by : Requests → Event → Mark
mark_by r (step.Issue n, answer.Run) = start_mark n (operation_running r n)
mark_by r (step.Finish n, answer.Ended res bytes) = Ends n (record { res = res; bytes = Some bytes })
mark_by r event = Idle

-- what these events have of operations after a history, the oldest of them first
abbrev pub marks_after : Setup → History → List Event → List Mark
marks_after g before [] = []
marks_after g before (e ∷ later) =
    mark_by (world g (e ∷ before)).requests e ∷ marks_after g (e ∷ before) later
