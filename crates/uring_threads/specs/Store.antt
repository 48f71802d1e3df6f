-- Glue. How events are kept: what is long in one is found by its place.
use Rattle.std.specs.Prelude.{◌≡◌, ℕ, zero, suc, ◌+◌, ◌<◌, ◌≤◌, List, map, length, vec_capacity, slice_index_or, ◌==◌, if◌then◌else◌, replicate, unwrap_or}
use Rattle.std.specs.List.{AllByRecursion}
use Rattle.uring_entry.specs.Layout.{Sqe, zero_entry}
use Rattle.uring_entry.specs.Requests.{no_bytes}
use Rattle.uring_core.specs.Histories.{Event}
use Rattle.uring_core.specs.declared.step.Step.{Step}
use Rattle.uring_core.specs.declared.step.Step.TheVariants as step
use Rattle.uring_core.specs.declared.step.StepWords.{StepWords}
use Rattle.uring_core.specs.StepForm as form
use Rattle.uring_core.specs.StepForm.{of_kind}
use Rattle.uring_core.specs.declared.answer.Answer.{Answer}
use Rattle.uring_core.specs.declared.answer.Answer.TheVariants as answer
use Rattle.uring_threads.specs.declared.brief.Brief.{Brief}
use Rattle.uring_threads.specs.declared.brief.BriefStep.{BriefStep}
use Rattle.uring_threads.specs.declared.brief.BriefAnswer.{BriefAnswer}
use Rattle.uring_threads.specs.declared.brief.BriefAnswer.TheVariants as told
use Rattle.uring_threads.specs.declared.store.Store.{Store}

-- the entry of a place
abbrev pub entry_at : List Sqe → ℕ → Sqe
entry_at entries place = slice_index_or entries place zero_entry

-- the bytes of a place: zeros at 0, and else those of the list before it
abbrev pub bytes_of : List (List ℕ) → ℕ → List ℕ
bytes_of bytes zero = no_bytes
bytes_of bytes (suc place) = slice_index_or bytes place no_bytes

-- the words of the step that is kept so, if it is no fill
abbrev pub words_at : BriefStep → StepWords
words_at b = of_kind b.kind b.word b.number (replicate 16 0)

-- the step that is kept so
abbrev pub step_of : Store → BriefStep → Step
step_of s b =
    if b.kind == 0 then step.Fill b.word (entry_at s.filled.items b.number) else
    unwrap_or (form.step_of (words_at b)) step.Next

-- the answer that is kept so
abbrev pub answer_of : Store → BriefAnswer → Answer
answer_of s told.Filled = answer.Filled
answer_of s told.NoSlot = answer.NoSlot
answer_of s told.Busy = answer.Busy
answer_of s told.Staged = answer.Staged
answer_of s told.Full = answer.Full
answer_of s (told.Tail word) = answer.Tail word
answer_of s (told.Head word) = answer.Head word
answer_of s (told.Call count) = answer.Call count
answer_of s told.Closed = answer.Closed
answer_of s told.InCall = answer.InCall
answer_of s told.Spent = answer.Spent
answer_of s told.Again = answer.Again
answer_of s (told.Entry place) = answer.Entry (entry_at s.filled.items place)
answer_of s (told.Other place) = answer.Entry (entry_at s.others.items place)
answer_of s told.Dropped = answer.Dropped
answer_of s told.NoMore = answer.NoMore
answer_of s told.NoCall = answer.NoCall
answer_of s (told.Taken accepted dropped head) = answer.Taken accepted dropped head
answer_of s told.NotAll = answer.NotAll
answer_of s told.Run = answer.Run
answer_of s (told.Ended res place) = answer.Ended res (bytes_of s.bytes.items place)
answer_of s told.NotReady = answer.NotReady
answer_of s told.Running = answer.Running
answer_of s told.Unknown = answer.Unknown
answer_of s told.NotRunning = answer.NotRunning
answer_of s (told.Moved count) = answer.Moved count
answer_of s (told.Reaped res named place) =
    answer.Reaped (record { user_data = named; res = res; payload = bytes_of s.bytes.items place })
answer_of s told.Nothing = answer.Nothing
answer_of s told.Shut = answer.Shut
answer_of s (told.Next number) = answer.Next number

-- the event that is kept so
abbrev pub event_of : Store → Brief → Event
event_of s b = (step_of s b.step, answer_of s b.answer)

-- all events
abbrev pub events_of : Store → List Brief → List Event
events_of s briefs = map (event_of s) briefs

-- what is long in the step is kept
abbrev pub IsStepWithin : Store → BriefStep → Type 0
IsStepWithin s b = b.kind ≡ 0 → b.number < length s.filled.items

-- what is long in the answer is kept
abbrev pub IsAnswerWithin : Store → BriefAnswer → Type 0
IsAnswerWithin s (told.Entry place) = place < length s.filled.items
IsAnswerWithin s (told.Other place) = place < length s.others.items
IsAnswerWithin s (told.Ended res place) = place ≤ length s.bytes.items
IsAnswerWithin s (told.Reaped res named place) = place ≤ length s.bytes.items
IsAnswerWithin s _ = Unit {0}

-- what is long in the event is kept
abbrev pub IsWithin : Store → Brief → Type 0
IsWithin s b = IsStepWithin s b.step × IsAnswerWithin s b.answer

-- what was kept stays in its place
pub record Stays (s t : Store) : Type 0 where
  pub filled : (place : ℕ) → place < length s.filled.items
      → (entry_at t.filled.items place ≡ entry_at s.filled.items place) × (place < length t.filled.items)
  pub others : (place : ℕ) → place < length s.others.items
      → (entry_at t.others.items place ≡ entry_at s.others.items place) × (place < length t.others.items)
  pub bytes : (place : ℕ) → place ≤ length s.bytes.items
      → (bytes_of t.bytes.items place ≡ bytes_of s.bytes.items place) × (place ≤ length t.bytes.items)

-- what was kept stays, at most one of each is kept more, and no memory is given back
pub record Goes (s t : Store) : Type 0 where
  pub stays : Stays s t
  pub filled : length t.filled.items ≤ length s.filled.items + 1
  pub others : length t.others.items ≤ length s.others.items + 1
  pub bytes : length t.bytes.items ≤ length s.bytes.items + 1
  pub filled_memory : vec_capacity t.filled ≡ vec_capacity s.filled
  pub others_memory : vec_capacity t.others ≡ vec_capacity s.others
  pub bytes_memory : vec_capacity t.bytes ≡ vec_capacity s.bytes

-- the same is kept, in no less memory
pub record IsSame (s t : Store) : Type 0 where
  pub filled : t.filled.items ≡ s.filled.items
  pub others : t.others.items ≡ s.others.items
  pub bytes : t.bytes.items ≡ s.bytes.items
  pub filled_memory : vec_capacity s.filled ≤ vec_capacity t.filled
  pub others_memory : vec_capacity s.others ≤ vec_capacity t.others
  pub bytes_memory : vec_capacity s.bytes ≤ vec_capacity t.bytes

-- there is memory for what is long in so many events more
pub record HasRoom (s : Store) (count : ℕ) : Type 0 where
  pub filled : length s.filled.items + count ≤ vec_capacity s.filled
  pub others : length s.others.items + count ≤ vec_capacity s.others
  pub bytes : length s.bytes.items + count ≤ vec_capacity s.bytes

-- What is so of each list of events: of each event what is long is kept, no more is kept than there are events, and there is memory for as many events as is told.
pub record AreStored (s : Store) (briefs : List Brief) (capacity room : ℕ) : Type 0 where
  pub within : AllByRecursion (IsWithin s) briefs
  pub few : length briefs ≤ room
  pub memory : room ≤ capacity
  pub filled : length s.filled.items ≤ length briefs
  pub others : length s.others.items ≤ length briefs
  pub bytes : length s.bytes.items ≤ length briefs
  pub filled_room : length s.filled.items + room ≤ vec_capacity s.filled + length briefs
  pub others_room : length s.others.items + room ≤ vec_capacity s.others + length briefs
  pub bytes_room : length s.bytes.items + room ≤ vec_capacity s.bytes + length briefs
