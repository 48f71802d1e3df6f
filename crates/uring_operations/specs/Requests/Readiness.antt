-- When a request that runs can be finished without waiting. io_uring_enter(2), at each operation; but where our own rule is named.
use Rattle.std.specs.Prelude.{◌≡◌, ℕ, ℤ, pos, negsuc, Bool, true, false, not, ◌&&◌, ◌||◌, ◌==◌, nat_lt, if◌then◌else◌}
use Rattle.std.specs.Ordering.{int_eq}
use Rattle.uring_operations.specs.declared.entries.submission.Submission.{Submission}
use Rattle.uring_operations.specs.declared.entries.needs.Needs.{Needs}
use Rattle.uring_operations.specs.declared.requests.ready.RequestStanding.{RequestStanding}
use Rattle.uring_operations.specs.declared.requests.ready.Moment.{Moment}
use Rattle.uring_operations.specs.declared.requests.ready.Patience.{Patience}
use Rattle.uring_operations.specs.declared.requests.ready.SplicePoll.{SplicePoll}
use Rattle.uring_operations.specs.declared.requests.ready.Wanted.{Wanted}
use Rattle.uring_operations.specs.declared.requests.ready.Wanted.TheVariants.{Count, Posting, Buffer, Readiness}
use Rattle.uring_operations.specs.declared.requests.ready.Look.{Look}
use Rattle.uring_operations.specs.declared.requests.ready.Look.TheVariants.{Asks, Waits, Finishes}
use Rattle.uring_operations.specs.declared.calls.system_call.SystemCall.{SystemCall}
use Rattle.uring_operations.specs.Calls.SystemCalls.{of_four, word_of}
use Rattle.uring_operations.specs.Calls.SystemCalls as sys
use Rattle.uring_entry.specs.Errors.{error, is_below}
use Rattle.uring_operations.specs.Entries.Clocks.{has_some}
use Rattle.uring_operations.specs.Entries.Needs.{is_transfer, is_read, is_write, is_send, is_receive, is_of_sockets, is_splice, takes_urgent, takes_errors}

-- one that is to take a provided buffer, and has found none since it started, ends so, whatever its descriptor has; but for one that is to be polled first, which counts as one that has found one. One that has found one waits for its descriptor, whatever becomes of that buffer: it takes what its group has then. So Linux 6.18 was seen to do
abbrev pub finds_what_it_wants : RequestStanding → Needs → Moment → Bool
finds_what_it_wants s n m = n.selects && not s.has_found_buffer && not m.has_buffer || m.is_ready

-- whether a request that runs, which has to wait or hasn't, and which a cancel has found or not, can be finished: one that a cancel has found can, whatever else is so; one that has to wait, since it would have waited, can't, which is our own rule; a timeout until its count is reached, since its time ends it by itself; any other, until its completion may be posted if it goes on, and its descriptor is ready if it may have to wait for that
abbrev pub can_finish : RequestStanding → Needs → (has_to_wait is_cancelled : Bool) → Moment → Bool
can_finish s n has_to_wait is_cancelled m =
    if is_cancelled then true else
    if has_to_wait then false else
    if n.is_timeout then m.has_counted else
    if n.goes_on && not m.may_post then false else
    if s.is_stream then finds_what_it_wants s n m else true

-- whether a descriptor counts as ready, by what a poll(2) that doesn't wait came to and the events that it shows: if there is one; and if it failed, so that the descriptor's own call tells of that, or would wait. poll(2); that is our own rule
abbrev pub counts_as_ready : ℤ → ℕ → Bool
counts_as_ready came events = is_below came || not (events == 0)

-- a socket is asked whether it was shut down for writing by a send (sendto(2)) of no bytes, which isn't to wait (MSG_DONTWAIT, 64), nor gives a signal (MSG_NOSIGNAL, 16384); which tells that by -32 (EPIPE). send(2)
abbrev pub breaking_call : ℤ → SystemCall
breaking_call fd = of_four sys.sendto (word_of fd) 0 0 16448

abbrev pub is_broken : ℤ → Bool
is_broken sent = int_eq sent (error 32)

-- nothing more comes from a descriptor that shows POLLRDHUP (8192): its socket was shut down for reading, or its peer for writing. poll(2); of datagrams what Linux 6.18 was seen to do
abbrev pub is_shut : ℤ → ℕ → Bool
is_shut (negsuc below) events = false
is_shut (pos n) events = not (n == 0) && has_some events 8192

-- whether a call that sleeps polls the descriptor of a request that runs: it may have to wait for that
abbrev pub polls : RequestStanding → Bool
polls s = s.is_stream

-- whether a request has found a file by a descriptor's number: it was looked for, nothing was amiss, and it needs one that is no slot's
abbrev pub has_found : Needs → (is_sought : Bool) → (fault : ℤ) → Bool
has_found n is_sought fault = n.needs_file && not n.is_registered && is_sought && int_eq fault (pos 0)

-- whether a request is to be given a descriptor of its own, since the application may close its: a kernel's request has its file from the moment in which it finds that. One that may have to wait has found it, and so has another as above; but who has a file that is kept for it, as that of a slot is, needs no other. Our own rule
abbrev pub keeps_open : RequestStanding → Needs → (is_sought : Bool) → (fault : ℤ) → (has_file : Bool) → Bool
keeps_open s n is_sought fault has_file = not has_file && (s.is_stream || has_found n is_sought fault)

-- the same of its second descriptor, if it has one, as a splice has: the end that it waits for is either. `has_file`: a file is kept for that one
abbrev pub keeps_second_open : RequestStanding → Needs → (is_sought : Bool) → (fault : ℤ) → (has_file : Bool) → Bool
keeps_second_open s n is_sought fault has_file = n.needs_second && keeps_open s n is_sought fault has_file

-- the same moment, where its descriptor is ready or isn't
abbrev pub with_descriptor : Moment → Bool → Moment
with_descriptor m is_ready = record {
  knows_count = m.knows_count;
  has_counted = m.has_counted;
  knows_posting = m.knows_posting;
  may_post = m.may_post;
  knows_buffer = m.knows_buffer;
  has_buffer = m.has_buffer;
  knows_readiness = m.knows_readiness;
  is_ready = is_ready;
}

-- a request that isn't polled is finished or not whatever its descriptor is: so a sleep misses none that its descriptor would let go on
abbrev pub PollsWhatMatters : Type 0
PollsWhatMatters = (s : RequestStanding) (n : Needs) (has_to_wait is_cancelled : Bool) (m : Moment) → polls s ≡ false
    → can_finish s n has_to_wait is_cancelled (with_descriptor m true)
    ≡ can_finish s n has_to_wait is_cancelled (with_descriptor m false)

-- whether a request that runs, which a cancel has found or not, waits for its descriptor alone: it may have to wait for that one, is no timeout, and is to take no provided buffer, or has found one
abbrev pub waits_for_descriptor_alone : RequestStanding → Needs → (is_cancelled : Bool) → Bool
waits_for_descriptor_alone s n is_cancelled =
    if is_cancelled then false else
    if n.is_timeout then false else
    if n.needs_second then false else
    if n.selects && not s.has_found_buffer then false else s.is_stream

-- whether it becomes dormant, so that an epoll instance tells of it in the place of a look in each call: its descriptor was looked at and isn't ready, and the instance takes it. Our own rule
abbrev pub lies_down : RequestStanding → Needs → (is_cancelled is_unready is_refused : Bool) → Bool
lies_down s n is_cancelled is_unready is_refused =
    is_unready && not is_refused && waits_for_descriptor_alone s n is_cancelled

-- one that does can't be finished while its descriptor isn't ready, whatever else is so: it needn't be looked at until the kernel tells that it is
abbrev pub NeedsNoLook : Type 0
NeedsNoLook = (s : RequestStanding) (n : Needs) (has_to_wait is_cancelled : Bool) (m : Moment)
    → waits_for_descriptor_alone s n is_cancelled ≡ true
    → can_finish s n has_to_wait is_cancelled (with_descriptor m false) ≡ false

-- what is known of the moment: what was asked of it
abbrev pub was_asked : Wanted → Moment → Bool
was_asked Count m = m.knows_count
was_asked Posting m = m.knows_posting
was_asked Buffer m = m.knows_buffer
was_asked Readiness m = m.knows_readiness

abbrev pub told : Bool → Look
told finishes = if finishes then Finishes else Waits

abbrev pub look_at_count : Moment → Look
look_at_count m = if m.knows_count then told m.has_counted else Asks Count

abbrev pub look_at_descriptor : RequestStanding → Needs → Moment → Look
look_at_descriptor s n m =
    if n.selects && not s.has_found_buffer && not m.knows_buffer then Asks Buffer else
    if n.selects && not s.has_found_buffer && not m.has_buffer then Finishes else
    if not m.knows_readiness then Asks Readiness else told m.is_ready

-- what is asked next, or whether it can be finished: nothing is asked that doesn't matter. Our own rule
abbrev pub look_of : RequestStanding → Needs → (has_to_wait is_cancelled : Bool) → Moment → Look
look_of s n has_to_wait is_cancelled m =
    if is_cancelled then Finishes else
    if has_to_wait then Waits else
    if n.is_timeout then look_at_count m else
    if n.goes_on && not m.knows_posting then Asks Posting else
    if n.goes_on && not m.may_post then Waits else
    if s.is_stream then look_at_descriptor s n m else Finishes

-- what was asked of a moment is so
pub record Fits (known m : Moment) : Type 0 where
  pub counted : known.knows_count ≡ true → known.has_counted ≡ m.has_counted
  pub posting : known.knows_posting ≡ true → known.may_post ≡ m.may_post
  pub buffer : known.knows_buffer ≡ true → known.has_buffer ≡ m.has_buffer
  pub ready : known.knows_readiness ≡ true → known.is_ready ≡ m.is_ready

-- whatever was asked before, what is told is whether the request can be finished by all that is so
abbrev pub FinishesWhatCan : Type 0
FinishesWhatCan = (s : RequestStanding) (n : Needs) (has_to_wait is_cancelled : Bool) (known m : Moment) → Fits known m
    → (look_of s n has_to_wait is_cancelled known ≡ Finishes → can_finish s n has_to_wait is_cancelled m ≡ true)
    × (look_of s n has_to_wait is_cancelled known ≡ Waits → can_finish s n has_to_wait is_cancelled m ≡ false)

-- nothing is asked twice
abbrev pub LooksOnce : Type 0
LooksOnce = (s : RequestStanding) (n : Needs) (has_to_wait is_cancelled : Bool) (known : Moment) (wanted : Wanted)
    → look_of s n has_to_wait is_cancelled known ≡ Asks wanted → was_asked wanted known ≡ false

-- what has flags of a message: an operation of sockets, but ACCEPT (13) and CONNECT (16)
abbrev pub has_message_flags : ℕ → Bool
has_message_flags code = is_of_sockets code && not (code == 13) && not (code == 16)

-- a transfer of no bytes moves nothing, unless it takes a provided buffer, or writes to a socket: that sends a datagram which has none, for which there may be no room. sendmsg(2); what Linux 6.18 was seen to do
abbrev pub is_for_nothing : Submission → Patience → Bool
is_for_nothing e p = p.length == 0 && not (has_some e.flags 32) && not (is_write e.opcode && p.is_socket)

-- a transfer is asked not to wait by RWF_NOWAIT (8), or for nothing
abbrev pub is_impatient_transfer : Submission → Patience → Bool
is_impatient_transfer e p = has_some e.op_flags 8 || is_for_nothing e p

-- an operation of messages asks that its descriptor is polled before it is carried out: IORING_RECVSEND_POLL_FIRST (1). io_uring_prep_send(3)
abbrev pub polls_first : Submission → Bool
polls_first e = has_message_flags e.opcode && has_some e.ioprio 1

-- a connect, a splice and a receive of urgent data or of errors are begun before they wait, so that their faults are found at once, and what is there: no readiness tells of these. But a receive that is to be polled first waits before any fault
abbrev pub is_begun_at_once : Submission → Bool
is_begun_at_once e =
    e.opcode == 16 || is_splice e.opcode || (takes_urgent e || takes_errors e) && not (polls_first e)

-- its socket was asked whether it listens, and is of no use to it: a transfer or a message of one that does ends with an error, as -107 (ENOTCONN) or -32 (EPIPE), and an ACCEPT (13) of one that doesn't, with -22 (EINVAL) or -95 (EOPNOTSUPP). But a message that is to be polled first waits. listen(2), accept(2)
abbrev pub is_in_vain : Submission → Patience → Bool
is_in_vain e p =
    if e.opcode == 13 then p.knows_listening && not p.is_listening else
    p.knows_listening && p.is_listening && (is_transfer e.opcode || has_message_flags e.opcode && not (polls_first e))

-- one that doesn't wait whatever its descriptor has: it has failed when it started, its socket is of no use to it, it opens a path (OPENAT, 18, and OPENAT2, 28), it is to be begun, it is a transfer as above, or it is asked not to wait by MSG_DONTWAIT (64)
abbrev pub is_impatient : Submission → Patience → Bool
is_impatient e p =
    p.has_failed || is_in_vain e p || e.opcode == 18 || e.opcode == 28
    || is_begun_at_once e && not p.has_begun
    || has_message_flags e.opcode && has_some e.op_flags 64
    || is_transfer e.opcode && is_impatient_transfer e p

-- whether what takes a provided buffer waits from now on for its descriptor, whatever its group has, where a look at that found a buffer or none: one that has found one does, and one that is to be polled first, since it takes its buffer only then. io_uring_prep_recv(3), IORING_RECVSEND_POLL_FIRST
abbrev pub waits_after_search : Submission → (is_found : Bool) → Bool
waits_after_search e is_found = is_found || polls_first e

-- whether it is asked, as a request starts, if its socket listens: it would have to wait, and it is no poll, which may wait for who connects, and no splice, which waits for either end of its two. Our own rule
abbrev pub asks_listening : Needs → (is_ready : Bool) → Bool
asks_listening n is_ready = not is_ready && not n.is_poll && not n.needs_second

-- whether one that wasn't found ready as it starts is carried out once all the same, and waits only then, where `least` is how many bytes a socket is to have to count as ready, SO_RCVLOWAT: 0 of what is none. Linux 6.18 carries each out before it polls, but where that is asked. It comes to something, or to an error, where poll(2) finds too little: a write or a send has some room though that isn't much, as in a pipe's last page or a local socket's buffer, or can't be written to at all; a read or a receive takes what a socket has, which is fewer. pipe(7), socket(7)
abbrev pub is_tried_first : Submission → (least : ℕ) → Bool
is_tried_first e least =
    not (polls_first e)
    && (is_write e.opcode || is_send e.opcode || nat_lt 1 least && (is_read e.opcode || is_receive e.opcode))

-- a splice or a tee waits for what it reads from, by POLLIN (1), and once that is ready for what it writes to, by POLLOUT (4). poll(2); which comes first is our own rule
abbrev pub splice_poll : (is_source_ready : Bool) → SplicePoll
splice_poll is_source_ready =
    record { is_of_source = not is_source_ready; events = if is_source_ready then 4 else 1 }
