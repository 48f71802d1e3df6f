-- Whether a request has to wait, and what becomes of a try, in words that C can read.
use Rattle.std.specs.Prelude.{ℕ, ℤ, ◌==◌, Option, Some, None, List, ◌∷◌, if◌then◌else◌}
use Rattle.uring_operations.specs.declared.files.descriptor.DescriptorKind.TheVariants.{Never, AtOnce, Tried, Stream, Wrong}
use Rattle.uring_operations.specs.declared.files.descriptor.Question.TheVariants.{Status, Offsets, Access}
use Rattle.uring_operations.specs.declared.files.descriptor.Finding.{Finding}
use Rattle.uring_operations.specs.declared.files.descriptor.Finding.TheVariants as finding
use Rattle.uring_operations.specs.declared.requests.ready.Wanted.TheVariants.{Count, Posting, Buffer, Readiness}
use Rattle.uring_operations.specs.declared.requests.ready.Look.{Look}
use Rattle.uring_operations.specs.declared.requests.ready.Look.TheVariants as look
use Rattle.uring_operations.specs.declared.calls.transfer.How.TheVariants as how
use Rattle.uring_enter.specs.declared.waiting.sighting.Sighting.{Sighting}
use Rattle.uring_enter.specs.declared.waiting.sighting.Sighting.TheVariants as sighting
use Rattle.uring_enter.specs.Waiting.Waiters.{Encounter, FoundWaiting}
use Rattle.uring_operations.specs.declared.calls.transfer.Task.{Task}
use Rattle.uring_operations.specs.declared.calls.transfer.Task.TheVariants.{Calls, Finds, Polls}
use Rattle.uring_operations.specs.declared.calls.transfer.Step.{Step}
use Rattle.uring_operations.specs.declared.calls.transfer.Step.TheVariants.{Does, Waits, Ends}
use Rattle.uring_operations.specs.declared.calls.waiting_call.Doing.{Doing}
use Rattle.uring_operations.specs.declared.calls.waiting_call.Doing.TheVariants as doing
use Rattle.uring_operations.specs.declared.calls.waiting_call.Turn.{Turn}
use Rattle.uring_operations.specs.declared.calls.waiting_call.Turn.TheVariants as turn

-- kinds count in the order of `DescriptorKind`, from 0, and questions in the order of `Question` after them. Our own rule
abbrev pub word_of_finding : Finding → ℕ
word_of_finding (finding.Is Never) = 0
word_of_finding (finding.Is AtOnce) = 1
word_of_finding (finding.Is Tried) = 2
word_of_finding (finding.Is Stream) = 3
word_of_finding (finding.Is Wrong) = 4
word_of_finding (finding.Asks Status) = 5
word_of_finding (finding.Asks Offsets) = 6
word_of_finding (finding.Asks Access) = 7

-- 0 and 1 say whether it can be finished, and what is asked counts in the order of `Wanted` after them. Our own rule
abbrev pub word_of_look : Look → ℕ
word_of_look look.Waits = 0
word_of_look look.Finishes = 1
word_of_look (look.Asks Count) = 2
word_of_look (look.Asks Posting) = 3
word_of_look (look.Asks Buffer) = 4
word_of_look (look.Asks Readiness) = 5

-- what has happened to a request that was asked so: of one that can't be finished, that it was found to wait
abbrev pub after_look : List Encounter → ℕ → List Encounter
after_look log word = if word == 0 then FoundWaiting ∷ log else log

-- 0 and 1 say whether a descriptor is ready, and 2 that it is to be looked at. Our own rule
abbrev pub word_of_sighting : Sighting → ℕ
word_of_sighting sighting.Unready = 0
word_of_sighting sighting.Ready = 1
word_of_sighting sighting.Unseen = 2

-- an end is 0, a wait 1, and what is done counts from 2, calls in the order of `How` from 4. Our own rule
abbrev pub word_of_step : Step → ℕ
word_of_step (Ends _) = 0
word_of_step Waits = 1
word_of_step (Does Finds) = 2
word_of_step (Does Polls) = 3
word_of_step (Does (Calls how.AtOnce)) = 4
word_of_step (Does (Calls how.Tried)) = 5
word_of_step (Does (Calls how.Plain)) = 6
word_of_step (Does (Calls how.Nonblocking)) = 7
word_of_step (Does (Calls how.Unwilling)) = 8

abbrev pub end_of_step : Step → ℤ → ℤ
end_of_step (Ends res) old = res
end_of_step _ old = old

-- the task of a word, by the same numbers; none of another
abbrev pub task_of : ℕ → Option Task
task_of word =
    if word == 2 then Some Finds else
    if word == 3 then Some Polls else
    if word == 4 then Some (Calls how.AtOnce) else
    if word == 5 then Some (Calls how.Tried) else
    if word == 6 then Some (Calls how.Plain) else
    if word == 7 then Some (Calls how.Nonblocking) else
    if word == 8 then Some (Calls how.Unwilling) else None

-- ends are 0 and 1, a wait 2, and what is done counts in the order of `Doing` after them. Our own rule
abbrev pub word_of_turn : Turn → ℕ
word_of_turn (turn.Ends _) = 0
word_of_turn turn.EndsWithDone = 1
word_of_turn turn.Waits = 2
word_of_turn (turn.Does doing.Calls) = 3
word_of_turn (turn.Does doing.Polls) = 4
word_of_turn (turn.Does doing.AsksWill) = 5
word_of_turn (turn.Does doing.AsksType) = 6
word_of_turn (turn.Does doing.AsksError) = 7

abbrev pub end_of_turn : Turn → ℤ → ℤ
end_of_turn (turn.Ends res) old = res
end_of_turn _ old = old

-- what was done, by the same numbers; nothing of another
abbrev pub doing_of : ℕ → Option Doing
doing_of word =
    if word == 3 then Some doing.Calls else
    if word == 4 then Some doing.Polls else
    if word == 5 then Some doing.AsksWill else
    if word == 6 then Some doing.AsksType else
    if word == 7 then Some doing.AsksError else None
