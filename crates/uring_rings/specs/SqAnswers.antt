-- Glue. What each call of the submission ring answers, by the lists of all that happened on it, and what the lists are afterwards. Refusals are tested in the order in which they stand.
use Rattle.std.specs.Prelude.{ℕ, ◌+◌, ◌==◌, nat_lt, length, Option, Some, None, if◌then◌else◌, slice_get}
use Rattle.std.specs.Option.{option_and_then}
use Rattle.uring_entry.specs.Layout.{Sqe}
use Rattle.uring_entry.specs.Setup.{Setup}
use Rattle.uring_entry.specs.IndexWords.{word_of}
use Rattle.uring_entry.specs.Submission.{Submission, Call, taken, dropped, entries_from, is_busy, is_full, call_length, with_filled, with_staged, with_begun, with_taken, with_closed}
use Rattle.uring_rings.specs.declared.answers.FillAnswer.{FillAnswer}
use Rattle.uring_rings.specs.declared.answers.FillAnswer.TheVariants.{NoSlot, Busy, Filled}
use Rattle.uring_rings.specs.declared.answers.IndexAnswer.{IndexAnswer}
use Rattle.uring_rings.specs.declared.answers.IndexAnswer.TheVariants.{Full, Staged}
use Rattle.uring_rings.specs.declared.answers.BeginAnswer.{BeginAnswer}
use Rattle.uring_rings.specs.declared.answers.BeginAnswer.TheVariants.{InCall, Call as Opened}
use Rattle.uring_rings.specs.declared.answers.TakeAnswer.{TakeAnswer}
use Rattle.uring_rings.specs.declared.answers.TakeAnswer.TheVariants.{NoCall as NoCallToTake, NoMore, Entry as Given, Dropped}
use Rattle.uring_rings.specs.declared.answers.EndAnswer.{EndAnswer}
use Rattle.uring_rings.specs.declared.answers.EndAnswer.TheVariants.{NoCall as NoCallToEnd, NotAll, Taken as Closed}

-- A slot is filled unless there is no such slot, or a position that the application doesn't know to be taken names it. Our own rule
abbrev pub fill_answer : ℕ → Submission → ℕ → FillAnswer
fill_answer size l slot =
    if nat_lt slot size then (if is_busy l slot then Busy else Filled) else NoSlot

-- the lists after a fill that was answered so
abbrev pub after_fill : Submission → ℕ → Sqe → FillAnswer → Submission
after_fill l slot entry Filled = with_filled l slot entry
after_fill l slot entry NoSlot = l
after_fill l slot entry Busy = l

-- A word is staged unless the ring is full. Our own rule: io_uring(7) leaves it to the application
abbrev pub index_answer : ℕ → Submission → IndexAnswer
index_answer size l = if is_full size l then Full else Staged

-- the lists after a word that was answered so
abbrev pub after_index : Submission → ℕ → IndexAnswer → Submission
after_index l word Staged = with_staged l word
after_index l word Full = l

-- the answer to a begin beside the call that is open, if there is one
abbrev pub begin_beside : Submission → ℕ → Option Call → BeginAnswer
begin_beside l n (Some call) = InCall
begin_beside l n None = Opened (call_length l n)

-- A call opens unless one is open. io_uring_enter(2), on to_submit, for the number of positions; the refusal is our own rule
abbrev pub begin_answer : Submission → ℕ → BeginAnswer
begin_answer l n = begin_beside l n l.call

-- the lists after a begin that was answered so
abbrev pub after_begin : Submission → ℕ → BeginAnswer → Submission
after_begin l n (Opened count) = with_begun l n
after_begin l n InCall = l

-- the answer to a take of a place with this entry, or of a dropped word
abbrev pub given : Option Sqe → TakeAnswer
given (Some entry) = Given entry
given None = Dropped

-- the answer to a take in the call that is open, if there is one
abbrev pub take_in : Submission → Option Call → TakeAnswer
take_in l None = NoCallToTake
take_in l (Some call) =
    if call.taken == call.count then NoMore else given (option_and_then (λ place. place.entry) (slice_get l.published (taken l + call.taken)))

-- A take gives the entry of the open call's next position, or that its word names no slot. Our own rule
abbrev pub take_answer : Submission → TakeAnswer
take_answer l = take_in l l.call

-- the lists once the call that is open, if there is one, has taken its next position
abbrev pub taken_on : Submission → Option Call → Submission
taken_on l (Some call) = with_taken l call
taken_on l None = l

-- the lists after a take that was answered so
abbrev pub after_take : Submission → TakeAnswer → Submission
after_take l (Given entry) = taken_on l l.call
after_take l Dropped = taken_on l l.call
after_take l NoCallToTake = l
after_take l NoMore = l

-- the answer to an end of the call that is open, if there is one: the call's entries, the words dropped with this call's, and the head's word after it
abbrev pub end_of : Setup → Submission → Option Call → EndAnswer
end_of g l None = NoCallToEnd
end_of g l (Some call) =
    if call.taken == call.count then Closed (record { accepted = length (entries_from l call.count); dropped = dropped (with_closed l call); head = word_of g.start (taken (with_closed l call)) }) else NotAll

-- The open call closes once all its positions are taken. Our own rule
abbrev pub end_answer : Setup → Submission → EndAnswer
end_answer g l = end_of g l l.call

-- the lists once the call that is open, if there is one, is closed
abbrev pub closed_on : Submission → Option Call → Submission
closed_on l (Some call) = with_closed l call
closed_on l None = l

-- the lists after an end that was answered so
abbrev pub after_end : Submission → EndAnswer → Submission
after_end l (Closed t) = closed_on l l.call
after_end l NoCallToEnd = l
after_end l NotAll = l
