-- What carrying out an operation needs, and of which kind it is, by lists of operations. io_uring_enter(2), at each operation; the numbers are those of <linux/io_uring.h>.
use Rattle.std.specs.Prelude.{ℕ, pos, Bool, false, not, ◌&&◌, ◌||◌, ◌==◌, ◌^◌, nat_le, if◌then◌else◌}
use Rattle.std.specs.Int.{w32, cast_signed}
use Rattle.std.specs.Int.RustNames.{bit_and, bit_or}
use Rattle.uring_operations.specs.declared.entries.submission.Submission.{Submission}
use Rattle.uring_operations.specs.declared.entries.needs.Needs.{Needs}
use Rattle.uring_operations.specs.declared.entries.form.Form.{Form}
use Rattle.uring_operations.specs.declared.entries.form.Form.TheVariants.{Token}
use Rattle.uring_operations.specs.Entries.Clocks.{has_some}
use Rattle.uring_operations.specs.Entries.NoOps.{wants_file, is_of_slot, wants_buffer}

-- READ_MULTISHOT, which reads whenever there is something, into a provided buffer each time. io_uring_prep_read_multishot(3)
abbrev pub is_read_multishot : ℕ → Bool
is_read_multishot code = code == 49

-- READV, READ_FIXED, READ and READ_MULTISHOT
abbrev pub is_read : ℕ → Bool
is_read code = code == 1 || code == 4 || code == 22 || is_read_multishot code

-- WRITEV, WRITE_FIXED and WRITE
abbrev pub is_write : ℕ → Bool
is_write code = code == 2 || code == 5 || code == 23

abbrev pub is_transfer : ℕ → Bool
is_transfer code = is_read code || is_write code

-- SENDMSG, SEND, SEND_ZC and SENDMSG_ZC
abbrev pub is_send : ℕ → Bool
is_send code = code == 9 || code == 26 || code == 47 || code == 48

-- SEND_ZC and SENDMSG_ZC: one completion says that the bytes were taken, and a second that their memory may be used again
abbrev pub is_zero_copy : ℕ → Bool
is_zero_copy code = code == 47 || code == 48

-- RECVMSG and RECV
abbrev pub is_receive : ℕ → Bool
is_receive code = code == 10 || code == 27

-- a receive of urgent data, by MSG_OOB (1). recv(2)
abbrev pub takes_urgent : Submission → Bool
takes_urgent e = is_receive e.opcode && has_some e.op_flags 1

-- a receive of what its socket was told of errors, by MSG_ERRQUEUE (8192). recv(2)
abbrev pub takes_errors : Submission → Bool
takes_errors e = is_receive e.opcode && has_some e.op_flags 8192

-- sends, receives, ACCEPT and CONNECT
abbrev pub is_of_sockets : ℕ → Bool
is_of_sockets code = is_send code || is_receive code || code == 13 || code == 16

-- SPLICE and TEE, which read from a second descriptor
abbrev pub is_splice : ℕ → Bool
is_splice code = code == 30 || code == 33

-- POLL_ADD
abbrev pub is_poll : ℕ → Bool
is_poll code = code == 6

-- an operation that acts on an open file, which its entry may name by the slot of a table: also FSYNC, SYNC_FILE_RANGE, FALLOCATE, FADVISE, SHUTDOWN, FSETXATTR, FGETXATTR, FIXED_FD_INSTALL, FTRUNCATE, BIND and LISTEN. IOSQE_FIXED_FILE
abbrev pub needs_file : ℕ → Bool
needs_file code =
    is_transfer code || is_of_sockets code || is_splice code || is_poll code
    || code == 3 || code == 8 || code == 17 || code == 24 || code == 34 || code == 41 || code == 43
    || code == 54 || code == 55 || code == 56 || code == 57

-- the length of an advice: that of 64 bits, which FADVISE (24) has for an address and MADVISE for an offset; or that of 32 bits, where the long one is 0. What Linux 6.18 does
abbrev pub advised_length : Submission → ℕ
advised_length e =
    let long = if e.opcode == 24 then e.addr else e.off in
    if long == 0 then e.len else long

-- READ_FIXED and WRITE_FIXED; a SEND_ZC with IORING_RECVSEND_FIXED_BUF (4); a no-op that looks for one
abbrev pub uses_buffer : Submission → Bool
uses_buffer e =
    e.opcode == 4 || e.opcode == 5 || e.opcode == 47 && has_some e.ioprio 4 || wants_buffer e

-- an FTRUNCATE (55) to a length that is negative in 64 bits: ftruncate(2) refuses that before it looks for the file, and a kernel's ring after. What Linux 6.18 was seen to do
abbrev pub has_negative_length : Submission → Bool
has_negative_length e = e.opcode == 55 && nat_le (2 ^ 63) e.off

-- a splice or a tee of no bytes: splice(2) and tee(2) look for no file then, and a kernel's ring does. What Linux 6.18 was seen to do
abbrev pub is_splice_of_nothing : Submission → Bool
is_splice_of_nothing e = is_splice e.opcode && e.len == 0

-- a poll, a no-op, such an FTRUNCATE and such a splice ask whether their files are open: no call of theirs would say that they aren't. A READ_MULTISHOT does so before it asks whether that can be polled
abbrev pub asks_file : Submission → Bool
asks_file e =
    is_poll e.opcode || is_read_multishot e.opcode || is_splice_of_nothing e || wants_file e || has_negative_length e

-- it has more than one completion: IORING_POLL_ADD_MULTI is 1, IORING_ACCEPT_MULTISHOT 1 and IORING_RECV_MULTISHOT 2; a READ_MULTISHOT always has. A poll hasn't that has EPOLLONESHOT (2^30) among its events: what Linux 6.18 was seen to do
abbrev pub goes_on : Submission → Bool
goes_on e =
    is_poll e.opcode && has_some e.len 1 && not (has_some e.op_flags 1073741824) || e.opcode == 13 && has_some e.ioprio 1
    || is_receive e.opcode && has_some e.ioprio 2 || is_read_multishot e.opcode

-- a RECVMSG that goes on puts sizes, flags, the address and control data into its buffer, in front of the bytes. io_uring_prep_recvmsg_multishot(3)
abbrev pub fills_buffer : Submission → Bool
fills_buffer e = e.opcode == 10 && has_some e.ioprio 2

-- NOP, POLL_ADD, POLL_REMOVE, TIMEOUT, TIMEOUT_REMOVE, ASYNC_CANCEL and LINK_TIMEOUT do nothing to a descriptor. Our own rule: whatever another does may make one ready, or unready
abbrev pub can_make_ready : ℕ → Bool
can_make_ready code =
    not (code == 0 || code == 6 || code == 7 || code == 11 || code == 12 || code == 14 || code == 15)

-- what every poll is told of besides what it names: POLLERR (8), POLLHUP (16), POLLNVAL (32) and POLLRDHUP (8192). What Linux 6.18 was seen to do; poll(2) has the first three
abbrev pub unasked : ℕ
unasked = 8248

-- the events for which its descriptor is polled: those that a poll names in 16 bits, and those of which every poll is told; POLLIN (1) of what takes something from it, of urgent data also POLLPRI (2), and POLLOUT (4) of what gives it something. poll(2)
abbrev pub events_of : Submission → ℕ
events_of e =
    if is_poll e.opcode then bit_or (bit_and e.op_flags 65535) unasked else
    if is_receive e.opcode then (if takes_urgent e then 3 else 1) else
    if is_read e.opcode || e.opcode == 13 then 1 else
    if needs_file e.opcode then 4 else 0

-- what is looked for before an operation is carried out
pub data Need : Type 0 where
  -- the file that it is carried out on
  File : Need
  -- the one that it reads from
  Second : Need
  -- that the first is open
  Openness : Need
  -- its registered buffer, which has its bytes
  Buffer : Need
  -- that the first can be polled
  Polling : Need
  -- what its descriptor is, and so whether it may have to wait for that
  Kind : Need

-- the place of a need in the order in which they are looked for: files come before a buffer, and that one can be polled before what it is open for, as Linux 6.18 has it; what a descriptor is comes last, since that asks it. The first that isn't there ends the request
abbrev pub place : Need → ℕ
place File = 0
place Second = 1
place Openness = 2
place Buffer = 3
place Polling = 4
place Kind = 5

abbrev pub is_sought : Submission → Need → Bool
is_sought e File = needs_file e.opcode || wants_file e
is_sought e Second = is_splice e.opcode
is_sought e Openness = asks_file e
is_sought e Buffer = uses_buffer e
is_sought e Polling = is_read_multishot e.opcode
is_sought e Kind = needs_file e.opcode || wants_file e

abbrev pub bit : Need → Bool → ℕ
bit need is_sought = if is_sought then 2 ^ place need else 0

-- a set of needs: the bit of each is 2 to the power of its place. Our own rule
abbrev pub set_of : (file second openness buffer polling kind : Bool) → ℕ
set_of file second openness buffer polling kind =
    bit_or (bit_or (bit_or (bit_or (bit_or (bit File file) (bit Second second)) (bit Openness openness)) (bit Buffer buffer)) (bit Polling polling)) (bit Kind kind)

abbrev pub sought_of : Submission → ℕ
sought_of e =
    set_of (is_sought e File) (is_sought e Second) (is_sought e Openness) (is_sought e Buffer) (is_sought e Polling) (is_sought e Kind)

-- TIMEOUT is 11; IOSQE_FIXED_FILE is 1, SPLICE_F_FD_IN_FIXED 2^31 and IOSQE_BUFFER_SELECT 32. Its file stands in `fd`, the one that a splice reads from in `splice_fd_in`, which is `file_index` with a sign, and its registered buffer in `buf_index`
abbrev pub needs_of : Submission → Needs
needs_of e = record {
  needs_file = needs_file e.opcode || wants_file e;
  is_registered = has_some e.flags 1 || is_of_slot e;
  needs_second = is_splice e.opcode;
  is_second_registered = has_some e.op_flags 2147483648;
  uses_buffer = uses_buffer e;
  selects = has_some e.flags 32;
  goes_on = goes_on e;
  is_timeout = e.opcode == 11;
  can_make_ready = can_make_ready e.opcode;
  is_read = is_read e.opcode;
  is_write = is_write e.opcode;
  is_poll = is_poll e.opcode;
  is_of_sockets = is_of_sockets e.opcode;
  is_receive = is_receive e.opcode;
  fills_buffer = fills_buffer e;
  is_zero_copy = is_zero_copy e.opcode;
  events = events_of e;
  fd = e.fd;
  second_fd = cast_signed w32 e.file_index;
  buffer = e.buf_index;
  sought = sought_of e;
}

-- only a token is carried out outside of the core: a cancel of the core's and what is refused need nothing
abbrev pub nothing : Needs
nothing = record {
  needs_file = false;
  is_registered = false;
  needs_second = false;
  is_second_registered = false;
  uses_buffer = false;
  selects = false;
  goes_on = false;
  is_timeout = false;
  can_make_ready = false;
  is_read = false;
  is_write = false;
  is_poll = false;
  is_of_sockets = false;
  is_receive = false;
  fills_buffer = false;
  is_zero_copy = false;
  events = 0;
  fd = pos 0;
  second_fd = pos 0;
  buffer = 0;
  sought = 0;
}

abbrev pub needs_as : Submission → Form → Needs
needs_as e Token = needs_of e
needs_as e _ = nothing
