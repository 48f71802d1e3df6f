-- What a request makes of the result of a system call, where that is more than the result.
use Rattle.std.specs.Prelude.{◌≡◌, ℕ, ℤ, pos, ◌+◌, ◌-◌, ◌^◌, ◌%◌, min, Bool, true, false, not, ◌&&◌, ◌||◌, ◌==◌, Option, Some, None, if◌then◌else◌}
use Rattle.std.specs.Ordering.{int_eq}
use Rattle.uring_operations.specs.declared.entries.submission.Submission.{Submission}
use Rattle.uring_operations.specs.declared.calls.call_results.Shutting.{Shutting}
use Rattle.uring_operations.specs.declared.calls.call_results.Shutting.TheVariants.{Ends, AsksShut, CallsAgain, AsksWill, AsksLocal}
use Rattle.uring_entry.specs.Errors.{error, is_below}
use Rattle.uring_operations.specs.Entries.NoOps.{signed}
use Rattle.uring_operations.specs.Entries.Clocks.{has_some}
use Rattle.uring_operations.specs.Entries.Needs.{fills_buffer, goes_on, is_read, is_read_multishot, is_receive, is_transfer, takes_errors}
use Rattle.uring_operations.specs.Calls.Advances.{moved_by}
use Rattle.uring_operations.specs.Calls.CallTries.{is_asked}

-- a connect that came to -115 (EINPROGRESS) goes on by itself, and ends as its socket does. One that came to -11 (EAGAIN), as of a local socket whose peer takes no more, hasn't begun, and is made again. connect(2), ERRORS
abbrev pub has_begun : ℤ → Bool
has_begun came_to = int_eq came_to (error 115)

-- after a RECVMSG (10) that has received a message its sizes and flags are told, where its entry has them told. recvmsg(2)
abbrev pub tells_message : Submission → ℤ → Bool
tells_message e came_to = e.opcode == 10 && not (is_below came_to)

-- where they can't be written it ends with -14 (EFAULT), though the message is gone. recvmsg(2), ERRORS; what the kernel does
abbrev pub told_result : ℤ → (is_told : Bool) → ℤ
told_result came_to is_told = if is_told then came_to else error 14

-- a socket of datagrams that was shut down for reading has no more, and a receive or a read that waits ends with 0; but one that is asked not to wait is told -11 (EAGAIN) there too. So after that it matters whether a socket was shut down, unless the entry asks it not to wait, by its flags of a message or RWF_NOWAIT (8), or goes on. So it is of an ACCEPT (13) by a local socket that was shut down, whom nobody can connect to any more. shutdown(2), SHUT_RD; what Linux 6.18 was seen to do
abbrev pub asks_shut : Submission → ℤ → Bool
asks_shut e came_to =
    int_eq came_to (error 11) && not (goes_on e)
    && (e.opcode == 13 || is_receive e.opcode && not (is_asked e) || is_read e.opcode && not (has_some e.op_flags 8))

-- what a call comes to that finds nothing where the socket was shut down: an accept to -22 (EINVAL), as one that waits in accept(2) does there, and any other to 0
abbrev pub end_when_shut : Submission → ℤ
end_when_shut e = if e.opcode == 13 then error 22 else pos 0

-- what a call came to counts as that which was asked not to wait, where the socket was shut down; but where its descriptor isn't to wait (O_NONBLOCK), of a RECV (27) alone, which doesn't go by that. What Linux 6.18 was seen to do
abbrev pub shut_result : Submission → ℤ → (is_shut isnt_to_wait : Bool) → ℤ
shut_result e came_to is_shut isnt_to_wait =
    if int_eq came_to (error 11) && is_shut && (not isnt_to_wait || e.opcode == 27) then end_when_shut e else came_to

-- a datagram may have come just before it was shut down, or while that is asked: so the call is made once more, and what that comes to counts. Of a receive of errors only a local socket is asked, which has none, and takes it for one of bytes; another has none whether it was shut down or not. What is next, after what was done last, which came to `res`, a question to a number that is 0 for no; None: after the call itself, which has come to -11 (EAGAIN) wherever the socket is asked
abbrev pub shutting_next : Submission → Option Shutting → ℤ → Shutting
shutting_next e None res = if not (asks_shut e res) then Ends res else if takes_errors e then AsksLocal else AsksShut
shutting_next e (Some AsksLocal) res = if int_eq res (pos 0) then Ends (error 11) else AsksShut
shutting_next e (Some AsksShut) res = if int_eq res (pos 0) then Ends (error 11) else CallsAgain
shutting_next e (Some CallsAgain) res = if int_eq res (error 11) then AsksWill else Ends res
shutting_next e (Some AsksWill) res = Ends (shut_result e (error 11) true (not (int_eq res (pos 0))))
shutting_next e (Some (Ends end)) res = Ends end

-- so what the call comes to that is made once more is what came of it, unless it found nothing again
abbrev pub ShuttingLosesNothing : Type 0
ShuttingLosesNothing = (e : Submission) (res : ℤ) → int_eq res (error 11) ≡ false
    → shutting_next e (Some CallsAgain) res ≡ Ends res

-- whether an operation has taken its provided buffer though it moved nothing: a transfer has, at the end of its file and as it fails, but not a READ_MULTISHOT, which ends there. One that fails puts a buffer of a ring back where its descriptor can be polled, since it takes that for good only once it has ended. What Linux 6.18 was seen to do
abbrev pub takes_for_nothing : ℕ → ℤ → (is_of_ring can_be_polled : Bool) → Bool
takes_for_nothing code came_to is_of_ring can_be_polled =
    is_transfer code && not (is_read_multishot code) && not (is_below came_to && is_of_ring && can_be_polled)

-- where a READ_MULTISHOT reads next, after so many bytes: from there on, unless it has no offset, which is 2^64 - 1. What has none, as a pipe, passes over it. What Linux 6.18 was seen to do
abbrev pub offset_after : Submission → ℤ → ℕ
offset_after e came_to =
    if is_read_multishot e.opcode && not (e.off == 2 ^ 64 - 1) then (e.off + moved_by came_to) % 2 ^ 64 else e.off

-- a file that is put into a slot ends with 0; with the slot, in 32 bits, if its entry asked for any, by 2^32 - 1 (IORING_FILE_INDEX_ALLOC). io_uring_enter(2), IORING_OP_OPENAT and IORING_OP_ACCEPT
abbrev pub placed_result : (asked slot : ℕ) → ℤ
placed_result asked slot = if asked == 4294967295 then signed slot else pos 0

-- what has moved so many bytes ends with these, of 31 bits; a RECVMSG that goes on with as much of its buffer as has something, what stands in front of the bytes with it. io_uring_prep_recvmsg_multishot(3)
abbrev pub done_result : Submission → (done filled : ℕ) → ℤ
done_result e done filled =
    if fills_buffer e then pos (min filled (2 ^ 31 - 1)) else pos (min done (2 ^ 31 - 1))

-- SOCK_STREAM (1) and SOCK_SEQPACKET (5): of these a receive that waits for all its bytes, with MSG_WAITALL, goes on after a part. recv(2), and what Linux 6.18 does
abbrev pub is_stream_type : ℕ → Bool
is_stream_type kind = kind == 1 || kind == 5
