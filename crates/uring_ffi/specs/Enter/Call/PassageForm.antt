-- In which order a call is refused and a ring gets a number, what is found of a descriptor, what an epoll instance's answer makes of who asks it, and what of a pipe is gone, in words that C can read.
use Rattle.std.specs.Prelude.{ℕ, Bool, ◌+◌, ◌^◌, ℤ, pos, Option, Some, None, ◌==◌, if◌then◌else◌}
use Rattle.std.specs.Int.{w32, cast_signed}
use Rattle.std.specs.Int.RustNames.{bit_or}
use Rattle.uring_enter.specs.Call.Passages.{CallStep, HasStructure, Begins, IsMade, Returns, place, is_done, call_steps}
use Rattle.uring_enter.specs.declared.call.passage.CallSteps.{CallSteps}
use Rattle.uring_enter.specs.declared.call.passage.Check.{Check}
use Rattle.uring_enter.specs.declared.call.passage.Check.TheVariants.{Number, Descriptor, Counts, Caller, Argument}
use Rattle.uring_enter.specs.declared.call.passage.Passage.{Passage}
use Rattle.uring_enter.specs.declared.call.passage.Passage.TheVariants.{Checks, IsRefused, Passes}
use Rattle.uring_register.specs.declared.rings.numbering.RowStage.{RowStage}
use Rattle.uring_register.specs.declared.rings.numbering.RowStage.TheVariants as stage
use Rattle.uring_register.specs.declared.rings.numbering.RowOnto.{RowOnto}
use Rattle.uring_register.specs.declared.rings.numbering.RowOnto.TheVariants as row
use Rattle.uring_register.specs.declared.rings.enrolled.Deed.{Deed}
use Rattle.uring_register.specs.declared.rings.enrolled.Deed.TheVariants as deed
use Rattle.uring_operations.specs.declared.requests.glance.Glance.{Glance}
use Rattle.uring_operations.specs.declared.requests.glance.Glance.TheVariants as glance
use Rattle.uring_enter.specs.declared.waiting.lying.Answered.{Answered}
use Rattle.uring_enter.specs.declared.waiting.lying.Answered.TheVariants as answered
use Rattle.uring_enter.specs.declared.waiting.enlisting.Enlisting.{Enlisting}
use Rattle.uring_enter.specs.declared.waiting.enlisting.Enlisting.TheVariants as enlisting
use Rattle.uring_enter.specs.declared.waiting.missed.Gone.{Gone}
use Rattle.uring_enter.specs.declared.waiting.missed.Gone.TheVariants as gone

-- the bit of a step of a call is 2 to the power of its place, after the numbers of checks, which have three bits: so steps are done by rising bits. Our own rule
abbrev pub bit : CallSteps → CallStep → ℕ
bit s step = if is_done s step then 2 ^ (3 + place step) else 0

abbrev pub word_of_call : CallSteps → ℕ
word_of_call s =
    bit_or (bit_or (bit_or (bit s HasStructure) (bit s Begins)) (bit s IsMade)) (bit s Returns)

-- the error, or what is looked at next in the order of `Check`, from 0; or the steps of a call that passes. Our own rule
abbrev pub word_of_passage : Passage → (is_extended : Bool) → ℤ
word_of_passage (IsRefused fault) is_extended = fault
word_of_passage (Checks Number) is_extended = pos 0
word_of_passage (Checks Descriptor) is_extended = pos 1
word_of_passage (Checks Counts) is_extended = pos 2
word_of_passage (Checks Caller) is_extended = pos 3
word_of_passage (Checks Argument) is_extended = pos 4
word_of_passage Passes is_extended = cast_signed w32 (word_of_call (call_steps Passes is_extended))

-- what a call has done, by that word; None: nothing
abbrev pub check_of : ℕ → Option Check
check_of word =
    if word == 0 then Some Number else
    if word == 1 then Some Descriptor else
    if word == 2 then Some Counts else
    if word == 3 then Some Caller else
    if word == 4 then Some Argument else None

-- by what a thread may become known, by its word: a set-up, a call that asks for so many entries on a ring with a thread of its own or without, and enrolling; any other word is a call that asks for none. Our own rule
abbrev pub deed_of : (word to_submit : ℕ) → (has_thread : Bool) → Deed
deed_of word to_submit has_thread =
    if word == 0 then deed.SetsUp else
    if word == 1 then deed.Calls to_submit has_thread else
    if word == 2 then deed.Enrolls else deed.Calls 0 has_thread

-- what is done by a row that gives a ring a number counts in the order of `RowStage`, from 0; then that it fails, that the number is lost and that it is done. Our own rule
abbrev pub word_of_row : RowOnto → ℕ
word_of_row (row.Does stage.Reads) = 0
word_of_row (row.Does stage.Judges) = 1
word_of_row (row.Does stage.Places) = 2
word_of_row (row.Does stage.Fills) = 3
word_of_row (row.Does stage.Tells) = 4
word_of_row (row.Fails _) = 5
word_of_row (row.Empties _) = 6
word_of_row row.IsDone = 7

-- what it has done, by that word; None: nothing
abbrev pub row_stage_of : ℕ → Option RowStage
row_stage_of word =
    if word == 0 then Some stage.Reads else
    if word == 1 then Some stage.Judges else
    if word == 2 then Some stage.Places else
    if word == 3 then Some stage.Fills else
    if word == 4 then Some stage.Tells else None

-- kinds count in the order of `Glance`, from 0. Our own rule
abbrev pub word_of_glance : Glance → ℕ
word_of_glance glance.Unready = 0
word_of_glance glance.Ready = 1
word_of_glance glance.AsksAlone = 2

-- kinds count in the order of `Answered`, from 0. Our own rule
abbrev pub word_of_answered : Answered → ℕ
word_of_answered answered.IsDone = 0
word_of_answered answered.AsksAgain = 1
word_of_answered answered.RousesAll = 2

-- kinds count in the order of `Gone`, from 0. Our own rule
abbrev pub word_of_gone : Gone → ℕ
word_of_gone gone.No = 0
word_of_gone gone.Asks = 1
word_of_gone gone.Yes = 2

abbrev pub copied_if : (has_copy : Bool) → (copied : ℤ) → Option ℤ
copied_if has_copy copied = if has_copy then Some copied else None

-- in the order of `Enlisting`, from 0
abbrev pub word_of_enlisting : Enlisting → ℕ
word_of_enlisting enlisting.Listed = 0
word_of_enlisting enlisting.AddsDuplicate = 1
word_of_enlisting enlisting.Unlisted = 2
