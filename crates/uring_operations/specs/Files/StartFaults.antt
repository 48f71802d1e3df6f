-- With what an operation fails as it starts, by what its descriptor is; and what it ends with that had a fault then. io_uring_enter(2), at each operation; what the kernel does.
use Rattle.std.specs.Prelude.{◌+◌, ◌-◌, ◌^◌, ℕ, ℤ, Bool, not, ◌&&◌, ◌||◌, ◌==◌, nat_lt, nat_le, pos, if◌then◌else◌}
use Rattle.std.specs.Ordering.{int_eq}
use Rattle.uring_operations.specs.declared.entries.submission.Submission.{Submission}
use Rattle.uring_operations.specs.declared.files.descriptor.Nature.{Nature}
use Rattle.uring_operations.specs.Entries.Clocks.{has_some}
use Rattle.uring_operations.specs.Entries.Needs.{is_read, is_write, is_transfer, is_of_sockets, needs_file}
use Rattle.uring_operations.specs.Files.Descriptors.{has_no_place}
use Rattle.uring_operations.specs.Requests.Readiness.{polls_first}
use Rattle.uring_entry.specs.Errors.{error, is_below}

-- with what a request ends whose buffer has this fault, where its descriptor is this: that isn't open counts first, and then that it is no socket
abbrev pub buffer_fault : Submission → Nature → ℤ → ℤ
buffer_fault e d why =
    if needs_file e.opcode && not d.is_open then error 9 else
    if is_of_sockets e.opcode && not d.is_socket then error 88 else why

-- with what a request ends that finds no buffer, provided or registered, where its descriptor is this: what isn't open counts first, -9 (EBADF), and then what is no socket, of an operation of sockets, -88 (ENOTSOCK); else it is -105 (ENOBUFS) of a provided buffer and -14 (EFAULT) of a registered one. What Linux 6.18 was seen to do
abbrev pub no_buffer_fault : Submission → Nature → ℤ
no_buffer_fault e d = buffer_fault e d (if has_some e.flags 32 then error 105 else error 14)

-- whether it matters to what it ends with that had this fault as it started, whether its group has a buffer: of a transfer that takes a provided buffer, whatever the fault, as -9 (EBADF) of a descriptor that is open in the wrong direction; but -77 (EBADFD), of one that can't be polled, comes before. A message takes its buffer after all these
abbrev pub fault_asks_buffer : Submission → ℤ → Bool
fault_asks_buffer e fault = is_transfer e.opcode && has_some e.flags 32 && is_below fault && not (int_eq fault (error 77))

-- what it ends with that had this fault as it started: that it finds no buffer counts before that. What Linux 6.18 was seen to do
abbrev pub ends_at_start : Submission → ℤ → (has_buffer : Bool) → Nature → ℤ
ends_at_start e fault has_buffer d =
    if fault_asks_buffer e fault && not has_buffer then no_buffer_fault e d else fault

-- what ends with such a fault, as it started or later, has had the buffer that its group has, and may have taken it (`takes_for_nothing`), unless its descriptor isn't open. What Linux 6.18 was seen to do
abbrev pub has_had_buffer : Submission → ℤ → (has_buffer : Bool) → Nature → Bool
has_had_buffer e fault has_buffer d = fault_asks_buffer e fault && has_buffer && d.is_open

-- a transfer that moves fewer than 8 bytes; but a write of none is carried out, and writes none. What Linux 6.18 was seen to do
abbrev pub is_too_short : Submission → ℕ → Bool
is_too_short e length = nat_lt length 8 && not (length == 0 && is_write e.opcode) && not (has_some e.flags 32)

-- a read that has no room for what is told of a signal. signalfd(2), ERRORS
abbrev pub is_less_than_signal : Submission → ℕ → Bool
is_less_than_signal e length = is_read e.opcode && nat_lt length 128 && not (has_some e.flags 32)

-- a transfer that is too short for what its descriptor gives or takes
abbrev pub is_short_there : Submission → ℕ → Nature → Bool
is_short_there e length d =
    d.is_counter && is_too_short e length || d.tells_signals && is_less_than_signal e length

-- whether it is asked for its name: only one that may be too short matters to it, and only what is no file of any type counts or tells of signals. But a read of 8 bytes, which what counts gives at once, is taken to be of that: our own rule, since to ask costs each such read a system call
abbrev pub asks_name : Submission → ℕ → Nature → Bool
asks_name e length d =
    is_transfer e.opcode && not d.has_type
    && (is_too_short e length || not (length == 8) && is_less_than_signal e length)

-- what has no offsets, as a pipe, a socket or an eventfd: bytes are moved there at none. (of a device it isn't asked)
abbrev pub passes_offset_over : Nature → Bool
passes_offset_over d = d.is_open && not (d.is_file || d.is_device || d.has_offsets)

-- the fault of an offset all the same: -22 (EINVAL) of one from which the bytes would go past the last that 63 bits have; and -29 (ESPIPE) of a socket's, but 0. What Linux 6.18 was seen to do; of a named pipe, and a negative offset, it first waits until it is ready
abbrev pub offset_fault : (offset length : ℕ) → (is_socket : Bool) → ℤ
offset_fault offset length is_socket =
    if nat_le (2 ^ 63) (offset + length) then error 22 else
    if is_socket && not (offset == 0) then error 29 else pos 0

-- the fault of a transfer's flags on what has no offsets: -95 (EOPNOTSUPP) of one that there isn't, from 2^9 on, and of RWF_ATOMIC (64) and RWF_DONTCACHE (128); -22 (EINVAL) of RWF_APPEND (16) beside RWF_NOAPPEND (32), and of RWF_HIPRI (1), in this order. preadv2(2); what Linux 6.18 was seen to do
abbrev pub flags_fault : (flags : ℕ) → ℤ
flags_fault flags =
    if nat_le 512 flags then error 95 else
    if has_some flags 16 && has_some flags 32 then error 22 else
    if has_some flags 192 then error 95 else
    if has_some flags 1 then error 22 else pos 0

-- with what a transfer fails as it starts by its flags, where they count there; else by being too short for what counts or tells of signals, -22 (EINVAL; eventfd(2), timerfd_create(2), signalfd(2)), or by its offset, which is none where it is 2^64 - 1
abbrev pub fault_after_flags : Submission → ℕ → Nature → ℤ → ℤ
fault_after_flags e length d fault =
    if passes_offset_over d && is_below fault then fault else
    if is_short_there e length d then error 22 else
    if passes_offset_over d && not (e.off == 2 ^ 64 - 1) then offset_fault e.off length d.is_socket else pos 0

-- a message that asks for a poll first, and isn't to wait (MSG_DONTWAIT, 64), is never polled: it ends with -11 (EAGAIN), whatever its socket has. What Linux 6.18 was seen to do
abbrev pub is_never_polled : Submission → Nature → Bool
is_never_polled e d = polls_first e && has_some e.op_flags 64 && d.is_socket

-- a transfer fails so where its descriptor isn't open at all, and its call would look at the offset first; and as above
abbrev pub transfer_fault : Submission → ℕ → Nature → ℤ
transfer_fault e length d =
    if has_no_place e && not d.is_open then error 9 else fault_after_flags e length d (flags_fault e.op_flags)

-- with what an operation fails as it starts, though its descriptor might have to be waited for: that isn't open for it (Wrong), -9 (EBADF); and as above. 0: it doesn't
abbrev pub start_fault : Submission → (is_wrong : Bool) → ℕ → Nature → ℤ
start_fault e is_wrong length d =
    if is_wrong then error 9 else
    if is_never_polled e d then error 11 else
    if is_transfer e.opcode then transfer_fault e length d else pos 0
