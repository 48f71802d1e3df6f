-- What an operation of sockets asks of its entry, beside the fields that must be 0. io_uring_enter(2), IORING_OP_SEND and those of its kind; which fields an operation leaves free is what the kernel does.
use Rattle.std.specs.Prelude.{Bool, not, ◌^◌, ◌&&◌, ◌||◌, ◌==◌, nat_lt, if◌then◌else◌}
use Rattle.std.specs.Int.RustNames.{bit_and}
use Rattle.uring_operations.specs.declared.entries.submission.Submission.{Submission}
use Rattle.uring_operations.specs.Entries.Clocks.{has_some}

-- a length that isn't negative in 32 bits
abbrev pub has_length : Submission → Bool
has_length e = nat_lt e.len (2 ^ 31)

-- IORING_RECVSEND_POLL_FIRST is 1
abbrev pub is_send_message : Submission → Bool
is_send_message e = has_length e && bit_and e.ioprio 65534 == 0

-- 16 bits of `file_index` say how long an address is, which stands where `off` says, and the others are reserved. One of more than 128 bytes is refused before the buffer is looked at
abbrev pub has_short_size : Submission → Bool
has_short_size e = nat_lt e.file_index (if e.off == 0 then 65536 else 129)

abbrev pub is_send : Submission → Bool
is_send e = is_send_message e && has_short_size e

-- IORING_RECV_MULTISHOT is 2. One that goes on takes a provided buffer each time (32), and no MSG_WAITALL (256)
abbrev pub may_go_on : Submission → Bool
may_go_on e = not (has_some e.ioprio 2) || has_some e.flags 32 && not (has_some e.op_flags 256)

abbrev pub is_receive : Submission → Bool
is_receive e = has_length e && bit_and e.ioprio 65532 == 0 && may_go_on e

-- IORING_SEND_ZC_REPORT_USAGE is 8. Its success can't be skipped (64)
abbrev pub is_send_message_zero_copy : Submission → Bool
is_send_message_zero_copy e = bit_and e.ioprio 65526 == 0 && not (has_some e.flags 64)

-- IORING_RECVSEND_FIXED_BUF is 4
abbrev pub is_send_zero_copy : Submission → Bool
is_send_zero_copy e = bit_and e.ioprio 65522 == 0 && not (has_some e.flags 64) && has_short_size e

-- a type of 4 bits with SOCK_NONBLOCK (2^11) and SOCK_CLOEXEC (2^19), in 32 bits of `off`; what a slot has isn't closed by exec
abbrev pub is_socket : Submission → Bool
is_socket e = bit_and e.off 4294440944 == 0 && (e.file_index == 0 || not (has_some e.off 524288))

-- IORING_ACCEPT_MULTISHOT is 1. Each descriptor of one that goes on goes to a slot that is free, IORING_FILE_INDEX_ALLOC, or to none
abbrev pub may_accept_more : Submission → Bool
may_accept_more e =
    not (has_some e.ioprio 1) || e.file_index == 0 || e.file_index == 4294967295

-- what a slot has isn't closed by exec
abbrev pub is_accept : Submission → Bool
is_accept e =
    bit_and e.ioprio 65534 == 0 && may_accept_more e && (e.file_index == 0 || not (has_some e.op_flags 524288))
