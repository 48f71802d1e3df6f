-- The answers that are called for: by step, and in each step the refusals in their order, which is our own rule.
use Rattle.std.specs.Prelude.{◌≡◌, ℕ, ◌+◌, ◌-◌, ◌^◌, ◌<◌, Bool, true, false, not, ◌==◌, nat_lt, nat_le, length, Option, Some, None, is_some, if◌then◌else◌, ◌⊎◌, slice_get}
use Rattle.uring_entry.specs.Setup.{Setup}
use Rattle.uring_entry.specs.IndexWords.{word_of}
use Rattle.uring_entry.specs.Layout.{Sqe, Cqe}
use Rattle.uring_entry.specs.Preparation.{is_cancel}
use Rattle.uring_entry.specs.Submission.{Call, Place, staged, taken, is_busy, is_full, call_length, entries_from, dropped, with_closed}
use Rattle.uring_entry.specs.Requests.{entry_of, is_outstanding, is_running, no_bytes}
use Rattle.uring_rules.specs.Rules.{ends_doomed, may_start, doomed_result, cancel_result, next_of}
use Rattle.uring_entry.specs.Completions.{put_by_flush, next_to_reap}
use Rattle.uring_core.specs.World.{World, requests_of}
use Rattle.uring_core.specs.declared.step.Step.{Step}
use Rattle.uring_core.specs.declared.step.Step.TheVariants as step
use Rattle.uring_core.specs.declared.answer.Answer.{Answer}
use Rattle.uring_core.specs.declared.answer.Answer.TheVariants as answer

-- a slot that isn't there, one that a position names which the application doesn't know to be taken, or else a slot that is filled. Our own rule
abbrev pub fill_answer : Setup → World → ℕ → Answer
fill_answer g w slot =
    if nat_le g.sq slot then answer.NoSlot else
    if is_busy w.submission slot then answer.Busy else
    answer.Filled

-- a ring that is full, or else a word that is staged. Our own rule
abbrev pub index_answer : Setup → World → Answer
index_answer g w = if is_full g.sq w.submission then answer.Full else answer.Staged

-- no more than 2 ^ 63 - 1 requests are ever accepted: our own rule
abbrev pub is_spent : World → ℕ → Bool
is_spent w count = nat_lt (2 ^ 63 - 1) (length w.requests.accepted + count)

-- the answer to Begin if memory is there. io_uring_enter(2), to_submit, for the length of the call; the refusals are our own rule
abbrev pub begin_answer : World → ℕ → Answer
begin_answer w count =
    if w.is_closed then answer.Closed else
    if is_some w.submission.call then answer.InCall else
    if is_spent w (call_length w.submission count) then answer.Spent else
    answer.Call (call_length w.submission count)

-- if a call of one position or more would open, memory may be refused instead; a call of none needs no memory. io_uring_enter(2), ERRORS, EAGAIN
abbrev pub OrAgain : Answer → Answer → Type 0
OrAgain (answer.Call length) a = (a ≡ answer.Call length) ⊎ ((a ≡ answer.Again) × (0 < length))
OrAgain refusal a = a ≡ refusal

-- an entry, or a word that names no slot
abbrev pub entry_answer : Option Sqe → Answer
entry_answer None = answer.Dropped
entry_answer (Some entry) = answer.Entry entry

-- the next position of a call, if there is one
abbrev pub place_answer : Option Place → Answer
place_answer None = answer.NoMore
place_answer (Some place) = entry_answer place.entry

-- no call, a call with all positions taken, or else its next position
abbrev pub take_answer_in : World → Option Call → Answer
take_answer_in w None = answer.NoCall
take_answer_in w (Some call) =
    if call.taken == call.count then answer.NoMore else
    place_answer (slice_get w.submission.published (taken w.submission + call.taken))

abbrev pub take_answer : World → Answer
take_answer w = take_answer_in w w.submission.call

-- no call, a call with positions left, or else how many entries are accepted, the words dropped so far with this call's, and the head after the call
abbrev pub end_answer_in : Setup → World → Option Call → Answer
end_answer_in g w None = answer.NoCall
end_answer_in g w (Some call) =
    if nat_lt call.taken call.count then answer.NotAll else
    answer.Taken (length (entries_from w.submission call.count)) (dropped (with_closed w.submission call)) (word_of g.start (taken w.submission + call.count))

abbrev pub end_answer : Setup → World → Answer
end_answer g w = end_answer_in g w w.submission.call

-- by the rules of the set-up: a request that isn't outstanding, or that runs already; a doomed one ends, by Linux's rules in its turn; one that may start runs, or ends if it is a cancel
abbrev pub issue_answer : Setup → World → ℕ → Answer
issue_answer g w n =
    if not (is_outstanding w.requests n) then answer.Unknown else
    if is_running w.requests n then answer.Running else
    if ends_doomed g.linux w.requests n
    then answer.Ended (doomed_result g.linux w.requests n) no_bytes else
    if not (may_start g.linux (requests_of w) n) then answer.NotReady else
    if is_cancel (entry_of w.requests n)
    then answer.Ended (cancel_result g.linux w.requests n) no_bytes else
    answer.Run

-- an end, with any result
abbrev pub IsEnded : Answer → Type 0
IsEnded (answer.Ended res bytes) = Unit {0}
IsEnded _ = ⊥

-- an Issue so answered isn't refused
abbrev pub IsIssued : Answer → Type 0
IsIssued answer.Run = Unit {0}
IsIssued a = IsEnded a

-- a running request ends, whatever its operation gave; another is refused
abbrev pub FinishesApart : Bool → Answer → Type 0
FinishesApart true a = IsEnded a
FinishesApart false a = a ≡ answer.NotRunning

-- the next completion that the tail last loaded shows, if there is one. io_uring(7), Reading completion events
abbrev pub reap_answer_of : Option Cqe → Answer
reap_answer_of None = answer.Nothing
reap_answer_of (Some completion) = answer.Reaped completion

-- the least request that can be issued, if there is one. Our own rule
abbrev pub next_answer_of : Option ℕ → Answer
next_answer_of None = answer.Nothing
next_answer_of (Some n) = answer.Next n

-- a call that is open, or else the ring is closed, also if it was before. Our own rule
abbrev pub close_answer : World → Answer
close_answer w = if is_some w.submission.call then answer.InCall else answer.Shut

-- The answer is called for, apart from what an operation gave.
abbrev pub CalledForApart : Setup → World → Step → Answer → Type 0
CalledForApart g w (step.Fill slot entry) a = a ≡ fill_answer g w slot
CalledForApart g w (step.Index word) a = a ≡ index_answer g w
CalledForApart g w step.StoreTail a = a ≡ answer.Tail (word_of g.start (staged w.submission))
CalledForApart g w step.LoadHead a = a ≡ answer.Head (word_of g.start (taken w.submission))
CalledForApart g w (step.Begin count) a = OrAgain (begin_answer w count) a
CalledForApart g w step.Take a = a ≡ take_answer w
CalledForApart g w step.End a = a ≡ end_answer g w
CalledForApart g w (step.Issue n) a = a ≡ issue_answer g w n
CalledForApart g w (step.Finish n) a = FinishesApart (is_running w.requests n) a
CalledForApart g w step.Flush a =
    a ≡ answer.Moved (put_by_flush g.cq w.completions - w.completions.put)
CalledForApart g w step.LoadCqTail a = a ≡ answer.Tail (word_of g.start w.completions.put)
CalledForApart g w step.Reap a = a ≡ reap_answer_of (next_to_reap w.completions)
CalledForApart g w step.StoreCqHead a =
    a ≡ answer.Head (word_of g.start (length w.completions.reaped))
CalledForApart g w step.Close a = a ≡ close_answer w
CalledForApart g w step.Next a = a ≡ next_answer_of (next_of g.linux (requests_of w))
