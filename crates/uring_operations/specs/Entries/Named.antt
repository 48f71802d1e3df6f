-- What the fields of an entry mean that the layer's own tables are asked for. io_uring_enter(2), at each operation.
use Rattle.std.specs.Prelude.{ℕ}
use Rattle.std.specs.Int.RustNames.{bit_and}
use Rattle.uring_operations.specs.declared.entries.submission.Submission.{Submission}
use Rattle.uring_operations.specs.declared.entries.named.Provided.{Provided}
use Rattle.uring_operations.specs.declared.entries.named.Passed.{Passed}
use Rattle.uring_operations.specs.declared.entries.named.Offsets.{Offsets}
use Rattle.uring_operations.specs.Entries.Provisions.{count_of}

-- IORING_OP_PROVIDE_BUFFERS: `addr` is where the first begins, `len` the bytes of each, `fd` how many there are, and `off` the number of the first
abbrev pub provided_of : Submission → Provided
provided_of e = record { address = e.addr; first = e.off; length = e.len; count = count_of e.fd }

-- IORING_OP_REMOVE_BUFFERS: `fd` is how many at most
abbrev pub removed_of : Submission → ℕ
removed_of e = count_of e.fd

-- IORING_OP_MSG_RING, IORING_MSG_SEND_FD: `addr3` is the slot of the file, whose lower 32 bits count, as Linux 6.18 has it, and `file_index` where it goes
abbrev pub passed_of : Submission → Passed
passed_of e = record { slot = bit_and e.addr3 4294967295; to = e.file_index }

-- IORING_OP_SPLICE: `splice_off_in`, which stands in the place of `addr`, is where it reads, and `off` where it writes
abbrev pub offsets_of : Submission → Offsets
offsets_of e = record { from = e.addr; to = e.off }

-- what a cancel, a removal and an update look for stands in `addr`
abbrev pub target_of : Submission → ℕ
target_of e = e.addr
