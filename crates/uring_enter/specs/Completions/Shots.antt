-- Requests that go on, and of which completions an eventfd is told. io_uring_enter(2), IORING_POLL_ADD_MULTI, IORING_ACCEPT_MULTISHOT, IORING_RECV_MULTISHOT and IORING_OP_READ_MULTISHOT; io_uring_register(2), IORING_REGISTER_EVENTFD_ASYNC. io_uring_enter(2), IORING_CQE_F_MORE and IORING_CQE_F_NOTIF.
use Rattle.std.specs.Prelude.{◌≡◌, ℕ, ℤ, pos, negsuc, ◌-◌, Bool, true, false, not, ◌&&◌, ◌||◌, ◌==◌, nat_lt, List, [], ◌∷◌, if◌then◌else◌}
use Rattle.uring_operations.specs.declared.entries.submission.Submission.{Submission}
use Rattle.uring_operations.specs.Entries.Needs as needs
use Rattle.uring_enter.specs.declared.completions.shot.Shot.{Shot}
use Rattle.uring_enter.specs.declared.completions.shot.RingPoll.{RingPoll}
use Rattle.uring_enter.specs.declared.completions.shot.Part.{Part}
use Rattle.uring_enter.specs.declared.completions.shot.Part.TheVariants.{Event, Sent, Notice, Own}
use Rattle.std.specs.Int.RustNames.{bit_or}
use Rattle.uring_enter.specs.declared.completions.posted.Posted.{Posted}
use Rattle.uring_enter.specs.Completions.Showing.{Change, posted, reaped}

-- what the request of an entry is that has moved so many bytes, or whose event comes of a ring. It goes on if its entry says so, and it has started as one that does: a poll of what can't be polled ends with its first event. The results of an ACCEPT (13) are descriptors; those of a RECVMSG (10) that goes on count what stands in front of the bytes, and not these alone. IORING_ACCEPT_MULTISHOT and IORING_RECV_MULTISHOT
abbrev pub shot_of : (started : Bool) → Submission → (done : ℕ) → (is_of_ring : Bool) → Shot
shot_of started e done is_of_ring = record {
  is_multishot = started && needs.goes_on e;
  is_accept = e.opcode == 13;
  is_of_messages = e.opcode == 10;
  has_bytes = nat_lt 0 done;
  is_of_ring = is_of_ring;
}

-- what happens to a poll
pub data PollFact : Type 0 where
  -- its descriptor was looked at, and was ready or wasn't
  Looked : Bool → PollFact
  -- it has had an event, and goes on; its ring had told its eventfd so often by then
  HadEvent : ℕ → PollFact

-- it has waited: once since it began its descriptor wasn't ready, or it has had an event, after which it waits for the next
abbrev pub has_waited : List PollFact → Bool
has_waited [] = false
has_waited (Looked is_ready ∷ earlier) = not is_ready || has_waited earlier
has_waited (HadEvent told ∷ earlier) = true

-- how often its ring had told its eventfd as it began, which is `start`, or as it had its last event
abbrev pub told_before : (start : ℕ) → List PollFact → ℕ
told_before start [] = start
told_before start (Looked is_ready ∷ earlier) = told_before start earlier
told_before start (HadEvent told ∷ earlier) = told

-- its ring has told its eventfd since then
abbrev pub was_told : (start : ℕ) → List PollFact → (told : ℕ) → Bool
was_told start log told = not (told == told_before start log)

-- an event comes of a ring where the poll goes on, of a ring's descriptor (`of_ring`), and has waited, or where its own ring has told the eventfd that it polls since the poll began, or since its last event. What Linux 6.18 was seen to do
abbrev pub comes_of_ring : (of_ring : Bool) → (start : ℕ) → List PollFact
    → (told : ℕ) → (is_eventfd : Bool) → Bool
comes_of_ring of_ring start log told is_eventfd =
    of_ring && has_waited log || was_told start log told && is_eventfd

-- the value is that of a poll to which this has happened
pub record KeepsPoll (of_ring : Bool) (start : ℕ) (log : List PollFact) (poll : RingPoll) : Type 0 where
  pub is_of_ring : poll.is_of_ring ≡ of_ring
  pub has_waited : poll.has_waited ≡ has_waited log
  pub told_before : poll.told_before ≡ told_before start log

-- a result says that something has come: no error, and not the end of what was to come, which a descriptor never is
abbrev pub brings : Shot → ℤ → Bool
brings s (pos n) = s.is_accept || nat_lt 0 n && (not s.is_of_messages || s.has_bytes)
brings s (negsuc _) = false

-- fewer completions were posted and aren't reaped than the ring has entries
abbrev pub has_room : List Change → ℕ → Bool
has_room log entries = nat_lt (posted log - reaped log) entries

-- it goes on while something comes. One whose completion finds the ring full ends with it, and so does a poll with an event that comes of a ring: its completion could bring the next. What the kernel does
abbrev pub goes_on : Shot → ℤ → Bool → Bool
goes_on s res room = s.is_multishot && not s.is_of_ring && brings s res && room

-- the flags of a completion: IORING_CQE_F_MORE is 2, where another of the same request follows; IORING_CQE_F_NOTIF is 8. A buffer is told of where the operation has taken one, also by one that a cancel has ended
abbrev pub completion_flags : Part → ℕ → ℕ
completion_flags Event of_buffer = bit_or of_buffer 2
completion_flags Sent _ = 2
completion_flags Notice _ = 8
completion_flags Own of_buffer = of_buffer

-- the flags of a provided buffer are told by the first completion that has them, which is an event where the request goes on: its next buffer has flags of its own. A send takes none
abbrev pub untold_after : Part → ℕ → ℕ
untold_after Event of_buffer = 0
untold_after Sent of_buffer = of_buffer
untold_after Notice of_buffer = of_buffer
untold_after Own of_buffer = 0

-- what is told after an event is told as by a request that has taken no buffer
abbrev pub TellsABufferOnce : Type 0
TellsABufferOnce = (later : Part) (of_buffer : ℕ)
    → completion_flags later (untold_after Event of_buffer) ≡ completion_flags later 0

-- what the end of a send without copies tells of, which has two completions: that its memory is free, where the other one, which says what it has sent, was posted before. Where memory was refused for that one it is put off, and the end tells what was sent. Our own rule
abbrev pub end_of_send : (is_posted : Bool) → Part
end_of_send is_posted = if is_posted then Notice else Sent

-- what its other completion tells of
abbrev pub other_of_send : Part → Part
other_of_send Notice = Sent
other_of_send part = Notice

-- both, in the order in which the application sees them: what was posted before the end stands before it, and what was put off after it
abbrev pub parts_of_send : (is_posted : Bool) → List Part
parts_of_send is_posted =
    if is_posted then other_of_send (end_of_send is_posted) ∷ end_of_send is_posted ∷ []
    else end_of_send is_posted ∷ other_of_send (end_of_send is_posted) ∷ []

-- what it has sent comes first, and then that its memory is free. io_uring_enter(2), IORING_OP_SEND_ZC
abbrev pub NotifiesAtLast : Type 0
NotifiesAtLast = (is_posted : Bool) → parts_of_send is_posted ≡ (Sent ∷ Notice ∷ [])

-- a completion comes after the call that submitted its request if the request ends in another call on the ring, be that one of io_uring_register(2): a cancel, by which what it finds ends. No call on the ring has submitted a message of another ring, or the tag of what is registered: such a one comes after them all. That a message does is our own rule
abbrev pub is_after : Posted → Bool
is_after end = end.is_message || not (end.call == end.ended)

-- an eventfd is told of each completion, or only of those that come after the call that submitted their request
abbrev pub tells : Posted → Bool → Bool
tells end is_async_alone = is_after end || not is_async_alone
