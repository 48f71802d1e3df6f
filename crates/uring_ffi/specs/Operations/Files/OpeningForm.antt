-- How an open is made, in words that C can read.
use Rattle.std.specs.Prelude.{ℕ, ℤ, ◌==◌, Option, Some, None, if◌then◌else◌}
use Rattle.uring_operations.specs.declared.files.pipe_open.Opening.{Opening}
use Rattle.uring_operations.specs.declared.files.pipe_open.Opening.TheVariants.{Plain, AtOnce, Pipe}
use Rattle.uring_operations.specs.declared.files.pipe_open.OpeningStep.{OpeningStep}
use Rattle.uring_operations.specs.declared.files.pipe_open.OpeningStep.TheVariants as step

-- kinds count in the order of `Opening`, from 0. Our own rule
abbrev pub word_of_opening : Opening → ℕ
word_of_opening Plain = 0
word_of_opening AtOnce = 1
word_of_opening Pipe = 2

-- an end is 0, a wait 1, and what is done counts in the order of `OpeningStep` after them. Our own rule
abbrev pub word_of_opening_step : OpeningStep → ℕ
word_of_opening_step (step.Ends _) = 0
word_of_opening_step step.Waits = 1
word_of_opening_step step.ByPath = 2
word_of_opening_step step.ByLink = 3
word_of_opening_step step.AsksWriter = 4

abbrev pub opening_end : OpeningStep → ℤ → ℤ
opening_end (step.Ends res) old = res
opening_end _ old = old

-- what was done, by the same numbers; nothing of another
abbrev pub opening_step_of : ℕ → Option OpeningStep
opening_step_of word =
    if word == 1 then Some step.Waits else
    if word == 2 then Some step.ByPath else
    if word == 3 then Some step.ByLink else
    if word == 4 then Some step.AsksWriter else None
