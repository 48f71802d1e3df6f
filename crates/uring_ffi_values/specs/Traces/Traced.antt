-- The steps that a whole call of a core stands for, each with its answer, by their places in the order in which they are made: so a trace has them. What they make of a core says `WholeCalls` of `uring_core`.
use Rattle.std.specs.Prelude.{◌≡◌, ℕ, Bool, true, false, ◌+◌, ◌-◌, ◌*◌, ◌/◌, ◌%◌, ◌^◌, ◌==◌, nat_lt, nat_le, ◌≤◌, length, map, option_map, reverse, slice_get, List, [], ◌∷◌, ◌++◌, Option, Some, None, if◌then◌else◌}
use Rattle.uring_entry.specs.Setup.{Setup}
use Rattle.uring_core.specs.Histories.{Event, History}
use Rattle.uring_core.specs.WholeCalls.{after_published, after_taken}
use Rattle.uring_core.specs.declared.answer.Answer.{Answer}
use Rattle.uring_core.specs.declared.answer.Answer.TheVariants as answer
use Rattle.uring_core.specs.declared.step.Step.{Step}
use Rattle.uring_core.specs.declared.step.Step.TheVariants as step
use Rattle.uring_ffi_values.specs.CoreWords.AnswerForm.{words_of}
use Rattle.uring_core.specs.StepForm.{step_of, words_of_step}
use Rattle.uring_ffi_values.specs.declared.core_words.answer_words.AnswerWords.{AnswerWords}
use Rattle.uring_ffi_values.specs.declared.core_words.completion_words.CompletionWords.{CompletionWords}
use Rattle.uring_core.specs.declared.step.StepWords.{StepWords}
use Rattle.uring_ffi_values.specs.declared.cores.whole_call_memory.EntryWords.{EntryWords}

-- A submission call of entries, of a ring with this head.

-- each entry is filled into the slot of its place
abbrev pub filled : ℕ → Option EntryWords → Option Event
filled slot None = None
filled slot (Some entry) = Some (step.Fill slot entry.words, answer.Filled)

-- and the slot is staged after that
abbrev pub put_event : List EntryWords → ℕ → Option Event
put_event entries place =
    if place % 2 == 0 then filled (place / 2) (slice_get entries (place / 2)) else
    Some (step.Index (place / 2), answer.Staged)

-- a call that was opened has this length; of one that was refused that is the answer
abbrev pub begun : ℕ → Answer → Answer
begun count (answer.Taken _ _ _) = answer.Call count
begun count refusal = refusal

-- each entry is taken, as far as the call goes which a ring may stop, and after the last one the call is closed
abbrev pub take_or_close : Option EntryWords → (is_accepted is_after : Bool) → Answer → Option Event
take_or_close (Some entry) is_accepted is_after end =
    Some (step.Take, if is_accepted then answer.Entry entry.words else answer.NoMore)
take_or_close None is_accepted is_after end = if is_after then Some (step.End, end) else None

-- of a call that was refused nothing is
abbrev pub taken_or_end : List EntryWords → Answer → ℕ → Option Event
taken_or_end entries (answer.Taken accepted dropped head) place =
    take_or_close (slice_get entries place) (nat_lt place accepted) (place == length entries) (answer.Taken accepted dropped head)
taken_or_end entries refusal place = None

-- what is put in is published, and the call is opened
abbrev pub call_event : List EntryWords → ℕ → Answer → ℕ → Option Event
call_event entries head end place =
    if place == 0 then Some (step.StoreTail, answer.Tail ((head + length entries) % 2 ^ 32)) else
    if place == 1 then Some (step.Begin (length entries), begun (length entries) end) else
    taken_or_end entries end (place - 2)

-- the head is loaded first. No core's ring has more than 4,096 slots
abbrev pub submitted_event : List EntryWords → ℕ → Answer → ℕ → Option Event
submitted_event entries head end place =
    if nat_lt 4096 (length entries) then None else
    if place == 0 then Some (step.LoadHead, answer.Head head) else
    if nat_le place (2 * length entries) then put_event entries (place - 1) else
    call_event entries head end (place - (2 * length entries + 1))

-- Completions that are reaped at once: the tail is loaded, each is reaped, and the head is stored.
abbrev pub reap_or_store : Option CompletionWords → (is_after : Bool) → ℕ → Option Event
reap_or_store (Some c) is_after head =
    Some (step.Reap, answer.Reaped (record { user_data = c.user_data; res = c.res; payload = c.bytes }))
reap_or_store None is_after head =
    if is_after then Some (step.StoreCqHead, answer.Head head) else None

abbrev pub reaped_event : List CompletionWords → (tail head place : ℕ) → Option Event
reaped_event completions tail head place =
    if place == 0 then Some (step.LoadCqTail, answer.Tail tail) else
    reap_or_store (slice_get completions (place - 1)) (place - 1 == length completions) head

-- Which steps these are.

-- those of a submission call that came to an end: the head is loaded; each entry is filled into the slot of its place, from this one on, and staged; what is put in is published, and the call opened; each entry is taken; and the call is closed
abbrev pub put_steps : ℕ → List EntryWords → List Step
put_steps slot [] = []
put_steps slot (entry ∷ later) =
    step.Fill slot entry.words ∷ step.Index slot ∷ put_steps (slot + 1) later

abbrev pub call_steps : List EntryWords → List Step
call_steps entries =
    step.LoadHead ∷ (put_steps 0 entries ++ (step.StoreTail ∷ step.Begin (length entries) ∷ (map (λ _. step.Take) entries ++ (step.End ∷ []))))

abbrev pub steps_of : History → List Step
steps_of events = map (λ e. e.0) events

-- they are those that the core's contract says it has made
abbrev pub NamesTheSteps : Type 0
NamesTheSteps = (g : Setup) (entries : List EntryWords) (end : Answer) (h : History)
    → steps_of ((step.End, end) ∷ after_taken g (length entries) (after_published g (map (λ e. e.words) entries) h))
    ≡ reverse (call_steps entries) ++ steps_of h

-- and those that are told of it, each at its place
abbrev pub TellsEachStep : Type 0
TellsEachStep = (entries : List EntryWords) (head accepted dropped left place : ℕ) → length entries ≤ 4096
    → option_map (λ e. e.0) (submitted_event entries head (answer.Taken accepted dropped left) place)
    ≡ slice_get (call_steps entries) place

-- What C is told.

-- words that tell no answer are of no call
abbrev pub submitted_for : List EntryWords → ℕ → Option Answer → ℕ → Option Event
submitted_for entries head None place = None
submitted_for entries head (Some end) place = submitted_event entries head end place

-- the words of a step and of its answer, if there is one; else nothing is written
abbrev pub TellsEvent : Option Event → (is_any : Bool) → (before after : StepWords) → (old new : AnswerWords) → Type 0
TellsEvent None is_any before after old new = (is_any ≡ false) × (after ≡ before) × (new ≡ old)
TellsEvent (Some (s, a)) is_any before after old new =
    (is_any ≡ true) × (step_of after ≡ Some s) × (after ≡ words_of_step s) × (new ≡ words_of a)
