-- What becomes of an operation of sockets, of a splice and of a poll that is carried out: which call is made, and after each what is done next. io_uring_enter(2), at each of them; recv(2), MSG_WAITALL; but where our own rule is named.
use Rattle.std.specs.Prelude.{◌≡◌, ℕ, ℤ, pos, negsuc, Bool, true, false, not, ◌&&◌, ◌||◌, ◌==◌, nat_lt, Option, Some, None, ◌⊎◌, if◌then◌else◌}
use Rattle.std.specs.Ordering.{int_eq}
use Rattle.std.specs.Int.RustNames.{bit_and}
use Rattle.uring_operations.specs.declared.entries.submission.Submission.{Submission}
use Rattle.uring_operations.specs.declared.calls.waiting_call.Call.{Call}
use Rattle.uring_operations.specs.declared.calls.waiting_call.Doing.{Doing}
use Rattle.uring_operations.specs.declared.calls.waiting_call.Doing.TheVariants.{Calls, Polls, AsksWill, AsksType, AsksError}
use Rattle.uring_operations.specs.declared.calls.waiting_call.Turn.{Turn}
use Rattle.uring_operations.specs.declared.calls.waiting_call.Turn.TheVariants.{Does, Waits, Ends, EndsWithDone}
use Rattle.uring_operations.specs.Entries.Clocks.{has_some}
use Rattle.uring_operations.specs.Entries.Needs.{takes_errors, goes_on}
use Rattle.uring_operations.specs.Calls.Parts.{is_alone}
use Rattle.uring_operations.specs.Requests.Readiness.{has_message_flags}
use Rattle.uring_entry.specs.Errors.{error}

-- an ACCEPT (13) that may have to wait might sleep, and a CONNECT (16) that was begun goes on by itself: their descriptors are polled first. Every other call is made so that it doesn't wait
abbrev pub polls_first : Submission → Call → Bool
polls_first e c = e.opcode == 13 && c.is_stream && not c.is_impatient || e.opcode == 16 && c.has_begun

abbrev pub begins : Submission → Call → Turn
begins e c = if polls_first e c then Does Polls else Does Calls

-- a message ends with what it has moved, if that is something
abbrev pub ends_with : Submission → Call → ℤ → Turn
ends_with e c res = if has_message_flags e.opcode && not (c.done == 0) then EndsWithDone else Ends res

-- the entry asks it not to wait: MSG_DONTWAIT (64). recv(2). That a splice asks so (SPLICE_F_NONBLOCK) doesn't count for each of its ends
abbrev pub is_asked : Submission → Bool
is_asked e = has_message_flags e.opcode && has_some e.op_flags 64

-- what would have had to wait ends so (-11, EAGAIN) if the entry asks for that. A message waits as long as a poll finds its descriptor unready; another, unless its descriptor isn't to wait (O_NONBLOCK), or its splice isn't
abbrev pub would_wait : Submission → Call → Turn
would_wait e c =
    if is_asked e then ends_with e c (error 11) else
    if has_message_flags e.opcode then Does Polls else Does AsksWill

-- SENDMSG (9), RECVMSG (10) and SENDMSG_ZC (48) go by what the descriptor says of waiting, but a SEND and a RECV don't. What Linux 6.18 was seen to do
abbrev pub heeds_will : ℕ → Bool
heeds_will code = code == 9 || code == 10 || code == 48

-- a message that would have had to wait, though its descriptor is ready, as a datagram to a socket that takes no more: what the socket was told of errors isn't there; a whole message waits unless its descriptor isn't to wait; and bytes wait. What Linux 6.18 was seen to do, whose worker carries it out then
abbrev pub after_vain : Submission → Call → Turn
after_vain e c =
    if takes_errors e then ends_with e c (error 11) else
    if heeds_will e.opcode then Does AsksWill else Waits

-- with MSG_WAITALL (256) a message goes on until all is moved, on a socket that is a stream, unless it has one part alone
abbrev pub waits_for_all : Submission → Call → Bool
waits_for_all e c =
    has_some e.op_flags 256 && not (has_some e.op_flags 64) && nat_lt c.done c.length
    && not (is_alone e c.control)

-- a message that came to its end (0) waits for no more
abbrev pub after_message : Submission → Call → ℤ → Turn
after_message e c (negsuc below) = ends_with e c (negsuc below)
after_message e c (pos n) = if not (n == 0) && waits_for_all e c then Does AsksType else EndsWithDone

-- a connect that was begun is made again once its socket is ready, so that this takes itself for connected; that it is (-106, EISCONN; of some protocols -77, EBADFD) is told then in the place of an error. connect(2), and what Linux 6.18 does
abbrev pub is_connected : Call → ℤ → Bool
is_connected c res = c.has_begun && (int_eq res (error 106) || int_eq res (error 77))

-- a connect that came to -103 (ECONNABORTED), as one does after another that was refused on its socket, is made once more, and no more often. What Linux 6.18 does
abbrev pub is_repeated : Call → ℤ → Bool
is_repeated c res = not c.was_repeated && int_eq res (error 103)

-- a connect that was begun (-115, EINPROGRESS), or is still going on (-114, EALREADY), waits; so does one to a local socket that takes no more (-11, EAGAIN), unless its own isn't to wait
abbrev pub after_connect : Call → ℤ → Turn
after_connect c res =
    if is_repeated c res then Does Calls else
    if int_eq res (error 11) then Does AsksWill else
    if int_eq res (error 115) || c.has_begun && int_eq res (error 114) then Waits else
    if is_connected c res then Ends (pos 0) else Ends res

abbrev pub after_call : Submission → Call → ℤ → Turn
after_call e c res =
    if e.opcode == 16 then after_connect c res else
    if int_eq res (error 11) then would_wait e c else
    if has_message_flags e.opcode then after_message e c res else Ends res

-- an ACCEPT (13) and a CONNECT (16) were polled before their call, a message after it
abbrev pub after_poll : Submission → Call → Bool → Turn
after_poll e c is_ready =
    if e.opcode == 13 then (if is_ready then Does Calls else Does AsksWill) else
    if not is_ready then Waits else
    if e.opcode == 16 then Does AsksError else after_vain e c

-- a connect ends with its socket's error, if that has one
abbrev pub after_error : Submission → ℤ → Turn
after_error e res = if e.opcode == 16 && int_eq res (pos 0) then Does Calls else Ends res

-- an accept that goes on waits though its descriptor isn't to: it was ready, and others have taken what was there, or its socket was shut down. What Linux 6.18 was seen to do
abbrev pub accepts_on : Submission → Bool
accepts_on e = e.opcode == 13 && goes_on e

-- what is done next, after what was done last, which came to `res`: a question to a number that is 0 for no. After a call, `done` has what it has moved too
abbrev pub after : Submission → Call → Doing → ℤ → Turn
after e c Calls res = after_call e c res
after e c Polls res = after_poll e c (not (int_eq res (pos 0)))
after e c AsksWill res = if int_eq res (pos 0) || accepts_on e then Waits else ends_with e c (error 11)
after e c AsksType res = if int_eq res (pos 0) then EndsWithDone else Waits
after e c AsksError res = after_error e res

abbrev pub next_of : Submission → Call → Option Doing → ℤ → Turn
next_of e c None res = begins e c
next_of e c (Some doing) res = after e c doing res

-- a connect counts as begun once 1 is noted of it as what it has moved (`has_begun`); the bytes of others don't matter for that
abbrev pub counts_as_begun : (done : ℕ) → Bool
counts_as_begun done = not (done == 0)

abbrev pub is_call : Option Doing → Bool
is_call (Some Calls) = true
is_call _ = false

-- a call counts as made once more if one comes right after another, and does so ever after
abbrev pub is_call_repeated : (was_repeated : Bool) → (last next : Option Doing) → Bool
is_call_repeated was_repeated last next = was_repeated || is_call last && is_call next

-- a descriptor was found ready
abbrev pub was_ready : Option Doing → ℤ → Bool
was_ready (Some Polls) res = not (int_eq res (pos 0))
was_ready _ res = false

-- a socket was found to have no error
abbrev pub had_no_error : Option Doing → ℤ → Bool
had_no_error (Some AsksError) res = int_eq res (pos 0)
had_no_error _ res = false

-- a connect is made once more
abbrev pub repeats : Call → Option Doing → ℤ → Bool
repeats c (Some Calls) res = is_repeated c res
repeats c _ res = false

-- a connection is accepted only right after its socket was found ready, and a connect that was begun is made again only right after its socket was found to have no error, or once more
abbrev pub AcceptsWhatCame : Type 0
AcceptsWhatCame = (e : Submission) (c : Call) (last : Option Doing) (res : ℤ) → polls_first e c ≡ true
    → next_of e c last res ≡ Does Calls
    → (if e.opcode == 16 then had_no_error last res || repeats c last res else was_ready last res) ≡ true

-- a call ends with what came last, or with -11; but a connect that is found made, with 0
abbrev pub EndsWithWhatCame : Type 0
EndsWithWhatCame = (e : Submission) (c : Call) (last : Option Doing) (res end : ℤ)
    → next_of e c last res ≡ Ends end
    → (end ≡ res) ⊎ ((end ≡ error 11) ⊎ ((end ≡ pos 0) × ((e.opcode == 16 ≡ true) × (is_connected c res ≡ true))))

-- bytes that a message has moved are told: it ends with no error
abbrev pub LosesNoBytes : Type 0
LosesNoBytes = (e : Submission) (c : Call) (last : Option Doing) (res end : ℤ)
    → has_message_flags e.opcode ≡ true → c.done == 0 ≡ false → next_of e c last res ≡ Ends end
    → last ≡ Some AsksError

-- what a poll ends with, for the events that it names, where these are there (none: 0): with them, or -9 (EBADF) of what isn't open (POLLNVAL, 32); of a pipe also with POLLIN (1) and POLLRDNORM (64), where something was written that is gone. None: it waits. poll(2)
abbrev pub poll_result : ℕ → ℕ → Bool → Option ℤ
poll_result events present was_told =
    if present == 0 then (if was_told then Some (pos (bit_and events 65)) else None) else
    if has_some present 32 then Some (error 9) else Some (pos present)

-- what a descriptor always has that can't be polled, as that of a file, a folder or a device without events: POLLIN (1), POLLOUT (4), POLLRDNORM (64) and POLLWRNORM (256). poll(2)
abbrev pub always_there : ℕ
always_there = 325

-- whether an epoll instance is asked for a poll: for one that goes on, since it tells of edges; and for one that names nothing of these, since it alone tells that a descriptor can't be polled. Our own rule
abbrev pub asks_instance : Submission → Bool
asks_instance e = goes_on e || not (has_some e.op_flags always_there)

-- what a poll for these events ends with whose descriptor can't be polled, also if it goes on: with those of them that are always there, or -22 (EINVAL) if none is. What Linux 6.18 was seen to do
abbrev pub unpolled_result : ℕ → ℤ
unpolled_result events = if has_some events always_there then pos (bit_and events always_there) else error 22
