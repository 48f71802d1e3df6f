-- What an entry is to the core, and which fault it has. io_uring_enter(2), DESCRIPTION and CQE ERRORS; the order of the faults is what Linux 6.18 was seen to have.
use Rattle.std.specs.Prelude.{ℕ, ℤ, Bool, true, false, not, ◌+◌, ◌^◌, ◌&&◌, ◌||◌, ◌==◌, nat_lt, nat_le, pos, Option, Some, None, if◌then◌else◌}
use Rattle.std.specs.Ordering.{int_eq}
use Rattle.std.specs.Int.RustNames.{bit_and}
use Rattle.uring_operations.specs.declared.entries.submission.Submission.{Submission}
use Rattle.uring_operations.specs.declared.entries.rule.Rule.{Rule}
use Rattle.uring_operations.specs.declared.entries.rule.Also.{Also}
use Rattle.uring_operations.specs.declared.entries.rule.Also.TheVariants.{Nothing, Transfer, Vectors, Sync, Poll, PollRemoval, Timeout, LinkedTimeout, TimeoutRemoval, Cancel, OpenHow, Close, FilesUpdate, ProvisionRemoval, Socket, Accept, Send, SendMessage, Receive, SendZeroCopy, SendMessageZeroCopy, Selection}
use Rattle.uring_operations.specs.declared.entries.form.Form.{Form}
use Rattle.uring_operations.specs.declared.entries.form.Form.TheVariants as form
use Rattle.uring_operations.specs.Entries.Rules.{rule_of, is_rule, priority, offset, address, length, own_flags, buffer, slot, third, padding}
use Rattle.uring_operations.specs.Entries.Clocks.{has_some}
use Rattle.uring_operations.specs.Entries.SocketForms.{is_send, is_send_message, is_receive, is_send_zero_copy, is_send_message_zero_copy, is_socket, is_accept}
use Rattle.uring_operations.specs.Entries.Buffers.{is_out_of_reach}
use Rattle.uring_operations.specs.Entries.Provisions.{has_count, provision_fault}
use Rattle.uring_entry.specs.Errors.{error, is_below}

abbrev pub bit_of : ℕ → ℕ → ℕ
bit_of bit field = if field == 0 then 0 else bit

-- the fields that an entry gives: those that aren't 0
abbrev pub given : Submission → ℕ
given e =
    bit_of priority e.ioprio + bit_of offset e.off + bit_of address e.addr + bit_of length e.len + bit_of own_flags e.op_flags
    + bit_of buffer e.buf_index + bit_of slot e.file_index + bit_of third e.addr3 + bit_of padding e.pad

-- a class of priority is at most 3, in the three highest bits, and without one there is no level, in the three lowest
abbrev pub is_priority : ℕ → Bool
is_priority ioprio = nat_lt ioprio 32768 && (nat_le 8192 ioprio || not (has_some ioprio 7))

-- a transfer has 1,024 vectors at most; and one, if it takes a provided buffer (32), which is found before what it points to is looked at
abbrev pub is_count_of_vectors : Submission → Bool
is_count_of_vectors e = nat_le e.len 1024 && (not (has_some e.flags 32) || e.len == 1)

-- one time, and one clock at most
abbrev pub is_timeout : Submission → Bool
is_timeout e = e.len == 1 && not (bit_and e.op_flags 12 == 12)

-- a removal has no flags; an update (2, of a linked one 16) may say that its time is absolute (1), and names no clock: that of the timeout stays. It is of no file (1)
abbrev pub is_timeout_removal : Submission → Bool
is_timeout_removal e = not (has_some e.flags 1) && (has_some e.op_flags 18 || e.op_flags == 0)

-- IORING_POLL_ADD_MULTI is 1; one that goes on may not skip its success (64)
abbrev pub is_poll : Submission → Bool
is_poll e = nat_le e.len 1 && not (e.len == 1 && has_some e.flags 64)

-- IORING_POLL_UPDATE_EVENTS is 2 and UPDATE_USER_DATA 4: what isn't updated isn't given
abbrev pub is_poll_removal : Submission → Bool
is_poll_removal e =
    nat_le e.len 7 && not (e.len == 1)
    && (has_some e.len 4 || e.off == 0) && (has_some e.len 2 || e.op_flags == 0)

-- whether an entry is what else its operation asks for. IORING_ASYNC_CANCEL_FD (2) and ANY (4) exclude each other; OPEN_HOW_SIZE_VER0 is 24; a close is of a descriptor or of a slot
abbrev pub meets : Also → Submission → Bool
meets Nothing e = true
meets Transfer e = is_priority e.ioprio
meets Vectors e = is_priority e.ioprio && is_count_of_vectors e
meets Sync e = nat_lt e.off (2 ^ 63)
meets Poll e = is_poll e
meets PollRemoval e = is_poll_removal e
meets Timeout e = is_timeout e
meets LinkedTimeout e = is_timeout e && bit_and e.off 4294967295 == 0
meets TimeoutRemoval e = is_timeout_removal e
meets Cancel e = not (bit_and e.op_flags 6 == 6)
meets OpenHow e = nat_le 24 e.len
meets Close e = e.file_index == 0 || int_eq e.fd (pos 0)
meets FilesUpdate e = not (e.len == 0) && not (has_some e.flags 1)
meets ProvisionRemoval e = has_count e.fd
meets Socket e = is_socket e
meets Accept e = is_accept e
meets Send e = is_send e
meets SendMessage e = is_send_message e
meets Receive e = is_receive e
meets SendZeroCopy e = is_send_zero_copy e
meets SendMessageZeroCopy e = is_send_message_zero_copy e
meets Selection e = has_some e.flags 32

-- READV, RECVMSG, READ and RECV may take a provided buffer, and READ_MULTISHOT does. IOSQE_BUFFER_SELECT
abbrev pub can_select : ℕ → Bool
can_select code = code == 1 || code == 10 || code == 22 || code == 27 || code == 49

-- there is no such operation, or no such flag (128)
abbrev pub is_unknown : Submission → Bool
is_unknown e = has_some e.flags 128 || not (is_rule (rule_of e.opcode))

-- another asks for one: IOSQE_BUFFER_SELECT is 32
abbrev pub selects_in_vain : Submission → Bool
selects_in_vain e = has_some e.flags 32 && not (can_select e.opcode)

-- the fault of an entry's operation and flags, which Linux 6.18 was seen to find before it looks at a drain, at restrictions and at other fields: -22 (EINVAL), and then -95 (EOPNOTSUPP) of a buffer that can't be selected; or 0
abbrev pub first_fault : Submission → ℤ
first_fault e =
    if is_unknown e then error 22 else
    if selects_in_vain e then error 95 else pos 0

-- it gives none of the fields that must be 0
abbrev pub is_bare : Option Rule → Submission → Bool
is_bare (Some rule) e = bit_and rule.barred (given e) == 0
is_bare None e = false

-- its operation knows its flags, and has what else it asks for
abbrev pub is_right : Option Rule → Submission → Bool
is_right (Some rule) e = bit_and rule.flags e.op_flags == e.op_flags && meets rule.also e
is_right None e = false

-- an operation of a path, or a close: OPENAT, CLOSE, STATX, RENAMEAT, UNLINKAT, MKDIRAT, SYMLINKAT, LINKAT, SETXATTR and GETXATTR. (an OPENAT2 has none either, but its structure is looked at first, `fault_after_how`)
abbrev pub has_no_file : ℕ → Bool
has_no_file code =
    code == 18 || code == 19 || code == 21 || nat_le 35 code && nat_le code 39 || code == 42 || code == 44

-- a personality, or fields that must be 0
abbrev pub gives_what_is_barred : Submission → Bool
gives_what_is_barred e = not (e.personality == 0) || not (is_bare (rule_of e.opcode) e)

-- a slot (IOSQE_FIXED_FILE, 1), where no file is looked for; or none, of a FIXED_FD_INSTALL (54), which is of a slot alone
abbrev pub names_wrong_file : Submission → Bool
names_wrong_file e =
    has_some e.flags 1 && has_no_file e.opcode || e.opcode == 54 && not (has_some e.flags 1)

-- READ, WRITE, SEND, RECV and SEND_ZC (47): of these the kernel looks at the buffer's address beforehand, but where a provided (32) or a registered one (IORING_RECVSEND_FIXED_BUF, 4) takes its place
abbrev pub names_buffer : Submission → Bool
names_buffer e =
    (e.opcode == 22 || e.opcode == 23 || e.opcode == 26 || e.opcode == 27 || e.opcode == 47 && not (has_some e.ioprio 4))
    && not (has_some e.flags 32)

-- the fault of what an entry names, or 0: of buffers that it provides (31), and -14 (EFAULT) of its own where no program can have it
abbrev pub fault_of_buffers : Submission → ℤ
fault_of_buffers e =
    if e.opcode == 31 then provision_fault e else
    if names_buffer e && is_out_of_reach e.addr e.len then error 14 else pos 0

-- the fault of an entry's fields, or 0: -22 (EINVAL) of what is barred, -9 (EBADF) of a slot in vain or of none, -22 of what else its operation asks for, and then that of buffers
abbrev pub field_fault : Submission → ℤ
field_fault e =
    if gives_what_is_barred e then error 22 else
    if names_wrong_file e then error 9 else
    if not (is_right (rule_of e.opcode) e) then error 22 else
    fault_of_buffers e

-- the first fault that an entry has, or 0: what a strict ring says, that of its operation and flags, -13 (EACCES) of a restriction, and that of its fields. This order is what Linux 6.18 was seen to have; that one which refuses an operation goes before is our own rule
abbrev pub fault_of : Submission → ℤ → Bool → ℤ
fault_of e refusal allowed =
    if is_below refusal then refusal else
    if is_below (first_fault e) then first_fault e else
    if not allowed then error 13 else field_fault e

-- a cancel by user data, on whose success nothing rests: no link (4, 8) and no skipped success (64)
abbrev pub is_plain_cancel : Submission → Bool
is_plain_cancel e = e.opcode == 14 && e.op_flags == 0 && not (has_some e.flags 76)

abbrev pub form_by : ℤ → Bool → Form
form_by fault is_cancel =
    if is_below fault then form.Refused fault else
    if is_cancel then form.Cancel else form.Token

-- whether what an entry points to is copied that is this: of one with a fault nothing is, so that it ends with that, whatever its pieces have. What the kernel does
abbrev pub copies_pieces : Form → Bool
copies_pieces (form.Refused _) = false
copies_pieces _ = true

-- one whose pieces have a fault is refused; another stays what it is
abbrev pub form_copied : Form → ℤ → Form
form_copied was fault = if is_below fault then form.Refused fault else was

-- an entry with a fault is refused with it. Else it is a cancel of the core's, or a token of it: our own rule
abbrev pub form_of : Submission → ℤ → Bool → Form
form_of e refusal allowed = form_by (fault_of e refusal allowed) (is_plain_cancel e)

-- the flags of an entry that the core is told, also of one with a fault, which so is a member of its chain: IOSQE_IO_DRAIN (2), IO_LINK (4), IO_HARDLINK (8), ASYNC (16) and CQE_SKIP_SUCCESS (64). The others are the layer's. Our own rule
abbrev pub core_flags : ℕ → ℕ
core_flags flags = bit_and flags 94
