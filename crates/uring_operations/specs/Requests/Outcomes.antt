-- What of a request's result is a success to the links after it, and what is shown of one that the core ends by itself. io_uring_enter(2), IOSQE_IO_LINK, but where another section or our own rule is named.
use Rattle.std.specs.Prelude.{◌≡◌, ℕ, ℤ, pos, negsuc, Bool, true, false, not, ◌&&◌, ◌||◌, ◌==◌, if◌then◌else◌}
use Rattle.std.specs.Ordering.{int_eq}
use Rattle.uring_operations.specs.declared.requests.outcome.Success.{Success}
use Rattle.uring_operations.specs.declared.requests.outcome.EndedEarly.{EndedEarly}
use Rattle.uring_operations.specs.declared.requests.outcome.EndedCancel.{EndedCancel}
use Rattle.uring_operations.specs.declared.requests.outcome.SoughtAfter.{SoughtAfter}
use Rattle.uring_operations.specs.declared.requests.outcome.SoughtAfter.TheVariants.{Running, Next, Nothing}
use Rattle.uring_operations.specs.declared.requests.outcome.Carried.{Carried}
use Rattle.uring_operations.specs.declared.entries.submission.Submission.{Submission}
use Rattle.uring_operations.specs.Entries.Clocks.{has_some}
use Rattle.uring_operations.specs.Entries.Needs.{is_of_sockets, is_read_multishot, is_splice, is_transfer}
use Rattle.uring_operations.specs.Calls.Parts.{is_alone}
use Rattle.uring_entry.specs.Errors.{error}
use Rattle.uring_operations.specs.Entries.Timeouts.{linked_outcome}

-- an operation of sockets wants all of its length with MSG_WAITALL (256), but a CONNECT (16) has none; a transfer, a SPLICE and a TEE always do, but a READ_MULTISHOT doesn't, whose last result is no part of anything. recv(2); IOSQE_IO_LINK; what Linux 6.18 was seen to do
abbrev pub wants_whole : Submission → Bool → Bool
wants_whole e has_message =
    if is_of_sockets e.opcode then has_message && not (e.opcode == 16) && has_some e.op_flags 256 else
    is_splice e.opcode || is_transfer e.opcode && not (is_read_multishot e.opcode)

-- what a RECVMSG (10) or a RECV (27) has received was cut if its message says so: MSG_CTRUNC is 8, MSG_TRUNC 32. recvmsg(2); what Linux 6.18 was seen to do
abbrev pub cuts : Submission → Carried → Bool
cuts e c = (e.opcode == 10 || e.opcode == 27) && c.has_message && has_some c.message_flags 40

-- SYNC_FILE_RANGE (8), FSYNC (3), FALLOCATE (17), STATX (21), MADVISE (25), SHUTDOWN (34), RENAMEAT, UNLINKAT, MKDIRAT, SYMLINKAT and LINKAT (35 to 39), FSETXATTR, SETXATTR, FGETXATTR and GETXATTR (41 to 44), FTRUNCATE (55): Linux doesn't mark the request as failed if one of these is carried out and fails. What Linux 6.18 was seen to do
abbrev pub is_forgiving : ℕ → Bool
is_forgiving code =
    code == 3 || code == 8 || code == 17 || code == 21 || code == 25 || code == 34
    || code == 35 || code == 36 || code == 37 || code == 38 || code == 39
    || code == 41 || code == 42 || code == 43 || code == 44 || code == 55

-- by Linux's rules a failure of one of these is a success to its link and to IOSQE_CQE_SKIP_SUCCESS, if it was carried out: not if something that it needs isn't there, nor if it was cancelled
abbrev pub forgives : Submission → Carried → (linux : Bool) → Bool
forgives e c linux = linux && is_forgiving e.opcode && not c.is_missing && not c.is_cancelled

-- what success is of the operation of an entry: a splice's length is the entry's, and IORING_TIMEOUT_ETIME_SUCCESS 32 of a timeout's (11) flags. LINK_TIMEOUT is 15, SHUTDOWN 34
abbrev pub success_of_entry : Submission → Carried → (linux : Bool) → Success
success_of_entry e c linux = record {
  length = if is_splice e.opcode then e.len else c.length;
  is_whole = wants_whole e c.has_message;
  takes_less = is_alone e c.control;
  is_cut = cuts e c;
  takes_time = e.opcode == 11 && has_some e.op_flags 32;
  is_linked_timeout = e.opcode == 15;
  is_cancelled = c.is_cancelled;
  forgives = forgives e c linux;
  wants_socket = e.opcode == 34;
}

-- a transfer has moved all that it was asked to, and nothing was cut: a short one breaks a link, but one that has one part alone may be short
abbrev pub is_whole : Success → ℤ → Bool
is_whole a (pos count) = (a.takes_less || count == a.length) && not a.is_cut
is_whole a (negsuc _) = false

-- -62 (ETIME) of a timeout that takes it so. IORING_TIMEOUT_ETIME_SUCCESS
abbrev pub is_time : Success → ℤ → Bool
is_time a res = a.takes_time && int_eq res (error 62)

-- a failure that isn't marked as one. A SHUTDOWN of what is no socket fails all the same: -88 (ENOTSOCK)
abbrev pub is_forgiven : Success → ℤ → Bool
is_forgiven a res = a.forgives && not (a.wants_socket && int_eq res (error 88))

abbrev pub success_of : Success → ℤ → Bool
success_of a (negsuc below) = is_time a (negsuc below) || is_forgiven a (negsuc below)
success_of a (pos count) = not a.is_whole || is_whole a (pos count)

-- whether it is a success to the links after it, and to IOSQE_CQE_SKIP_SUCCESS: no error but one that isn't marked, and of a transfer that wants all of its length no less. A chain goes on after a linked timeout whatever that ends with, unless it was cancelled itself
abbrev pub is_success : Success → ℤ → Bool
is_success a res =
    if a.is_linked_timeout then not a.is_cancelled else success_of a res

-- a cancel has found a request that runs: -114 (EALREADY). IORING_OP_ASYNC_CANCEL
abbrev pub looks_for_running : Bool → ℤ → Bool
looks_for_running is_cancel res = is_cancel && int_eq res (error 114)

-- By Linux's rules a cancel of the core's finds only what has started: -2 (ENOENT). One that could start is found all the same, since the kernel starts it in the call that takes it
abbrev pub looks_for_next : Bool → ℤ → (linux : Bool) → Bool
looks_for_next is_cancel res linux = linux && is_cancel && int_eq res (error 2)

-- what a cancel looks for once the core has ended it: first for the requests that run; then for the one that could start, by what it ends with after those, and only where it has cancelled none of them. So it cancels one, and one that runs comes first, as in the kernel
abbrev pub sought_after : EndedCancel → ℤ → SoughtAfter
sought_after c res =
    if not c.has_looked && looks_for_running c.is_cancel res then Running else
    if c.has_next && not c.has_cancelled && looks_for_next c.is_cancel res c.linux then Next else Nothing

-- one that has cancelled a request looks for no other
abbrev pub CancelsOne : Type 0
CancelsOne = (c : EndedCancel) (res : ℤ) → c.has_looked ≡ true → c.has_cancelled ≡ true → sought_after c res ≡ Nothing

-- a cancel looks for such a request before the core ends it: others could start after its end, which the kernel's cancel doesn't find
abbrev pub looks_ahead : Bool → (linux : Bool) → Bool
looks_ahead is_cancel linux = linux && is_cancel

-- whoever looks for one once the core has ended it has looked before
abbrev pub LooksInTime : Type 0
LooksInTime = (is_cancel linux : Bool) (res : ℤ)
    → looks_for_next is_cancel res linux ≡ true → looks_ahead is_cancel linux ≡ true

abbrev pub may_have_found : Bool → ℤ → Bool
may_have_found is_cancel res = is_cancel && (int_eq res (error 114) || int_eq res (error 2))

-- what is shown in the place of a result of the core's: 0 of a cancel that found a request which waits or could start, as the kernel does; of an entry with a fault its own error in the place of -22 (EINVAL); of a linked timeout -62 (ETIME) in the place of -125 (ECANCELED), if it has cancelled the request before it. Our own rule, since the core knows no more of either
abbrev pub shown_of : EndedEarly → ℤ → ℤ
shown_of r res =
    if may_have_found r.is_cancel res && r.has_cancelled then pos 0 else
    if r.is_faulty && int_eq res (error 22) then r.fault else
    if r.is_linked_timeout && int_eq res (error 125) then linked_outcome r.has_fired else res
