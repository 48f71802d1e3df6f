-- The step that words give. Our own rule: kinds count the steps in the order of `Step`, from 0.
use Rattle.std.specs.Prelude.{ℕ, Bool, ◌==◌, nat_lt, ◌||◌, ◌&&◌, List, Option, Some, None, if◌then◌else◌, replicate}
use Rattle.uring_core.specs.declared.step.Step.{Step}
use Rattle.uring_core.specs.declared.step.Step.TheVariants as step
use Rattle.uring_core.specs.declared.step.StepWords.{StepWords}

-- the steps of the application
abbrev pub app_step_of : StepWords → Option Step
app_step_of w =
    if w.kind == 0 then Some (step.Fill w.word w.entry) else
    if w.kind == 1 then Some (step.Index w.word) else
    if w.kind == 2 then Some step.StoreTail else
    if w.kind == 3 then Some step.LoadHead else
    if w.kind == 10 then Some step.LoadCqTail else
    if w.kind == 11 then Some step.Reap else
    if w.kind == 12 then Some step.StoreCqHead else None

-- the steps of the dispatcher
abbrev pub kernel_step_of : StepWords → Option Step
kernel_step_of w =
    if w.kind == 4 then Some (step.Begin w.word) else
    if w.kind == 5 then Some step.Take else
    if w.kind == 6 then Some step.End else
    if w.kind == 7 then Some (step.Issue w.number) else
    if w.kind == 8 then Some (step.Finish w.number) else
    if w.kind == 9 then Some step.Flush else
    if w.kind == 13 then Some step.Close else
    if w.kind == 14 then Some step.Next else None

-- whether this kind is a step of the application
abbrev pub is_app_kind : ℕ → Bool
is_app_kind kind = nat_lt kind 4 || (nat_lt 9 kind && nat_lt kind 13)

-- the step, if the words give one
abbrev pub step_of : StepWords → Option Step
step_of w = if is_app_kind w.kind then app_step_of w else kernel_step_of w

-- the step of a core, if the words give one: a finish has an outcome, and is a call of its own
abbrev pub core_step_of : StepWords → Option Step
core_step_of w = if w.kind == 8 then None else step_of w

-- The words that give a step: what its kind doesn't use is 0.
abbrev pub of_kind : (kind word number : ℕ) → List ℕ → StepWords
of_kind kind word number entry =
    record { kind = kind; word = word; number = number; entry = entry }

abbrev pub of_kind_alone : ℕ → StepWords
of_kind_alone kind = of_kind kind 0 0 (replicate 16 0)

abbrev pub words_of_step : Step → StepWords
words_of_step (step.Fill slot entry) = of_kind 0 slot 0 entry
words_of_step (step.Index word) = of_kind 1 word 0 (replicate 16 0)
words_of_step step.StoreTail = of_kind_alone 2
words_of_step step.LoadHead = of_kind_alone 3
words_of_step (step.Begin count) = of_kind 4 count 0 (replicate 16 0)
words_of_step step.Take = of_kind_alone 5
words_of_step step.End = of_kind_alone 6
words_of_step (step.Issue number) = of_kind 7 0 number (replicate 16 0)
words_of_step (step.Finish number) = of_kind 8 0 number (replicate 16 0)
words_of_step step.Flush = of_kind_alone 9
words_of_step step.LoadCqTail = of_kind_alone 10
words_of_step step.Reap = of_kind_alone 11
words_of_step step.StoreCqHead = of_kind_alone 12
words_of_step step.Close = of_kind_alone 13
words_of_step step.Next = of_kind_alone 14
