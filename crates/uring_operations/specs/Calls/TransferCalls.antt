-- Which call moves the bytes of a transfer. preadv2(2) and pread(2): READV, READ_FIXED and READ are like the one, WRITEV, WRITE_FIXED and WRITE like pwritev2(2). io_uring_enter(2)
use Rattle.std.specs.Prelude.{ℕ, Bool, false, not, ◌&&◌, ◌==◌, nat_le, Option, Some, if◌then◌else◌}
use Rattle.std.specs.Int.RustNames.{bit_or}
use Rattle.uring_operations.specs.declared.entries.submission.Submission.{Submission}
use Rattle.uring_operations.specs.declared.calls.system_call.SystemCall.{SystemCall}
use Rattle.uring_operations.specs.declared.calls.transfer.Transfer.{Transfer}
use Rattle.uring_operations.specs.declared.calls.transfer.Task.{Task}
use Rattle.uring_operations.specs.declared.calls.transfer.Task.TheVariants.{Calls}
use Rattle.uring_operations.specs.declared.calls.transfer_calls.Vectors.{Vectors}
use Rattle.uring_operations.specs.Entries.Needs.{is_read, is_write}
use Rattle.uring_operations.specs.Calls.SystemCalls as sys
use Rattle.uring_operations.specs.Calls.SystemCalls.{of_four, of_six, word_of}
use Rattle.uring_operations.specs.Calls.Tries.{offset_of, asks_not_to_wait}

-- a call that is made so is asked not to wait
abbrev pub is_asked : Option Task → Bool
is_asked (Some (Calls how)) = asks_not_to_wait how
is_asked _ = false

-- the flags of the entry, and of what is asked not to wait RWF_NOWAIT (8)
abbrev pub flags_of : Submission → Option Task → ℕ
flags_of e task = bit_or e.op_flags (if is_asked task then 8 else 0)

-- one buffer, at an offset that a call without vectors takes
abbrev pub is_one : Vectors → ℕ → Bool
is_one v offset = v.count == 1 && not (v.length == 0) && nat_le offset 9223372036854775807

-- an offset stands in two halves, and all of it in the first; none, where the file's position counts, is 2^64 - 1
abbrev pub by_vectors : ℕ → Vectors → ℕ → ℕ → SystemCall
by_vectors number v offset flags = of_six number (word_of v.fd) v.vectors v.count offset 0 flags

-- both calls move the same bytes, where nothing is asked of them: so one buffer is read by the call that copies no vectors. Our own rule
abbrev pub read_of : Vectors → ℕ → ℕ → SystemCall
read_of v offset flags =
    if flags == 0 && is_one v offset then of_four sys.pread64 (word_of v.fd) v.buffer v.length offset else
    by_vectors sys.preadv2 v offset flags

-- a write of no bytes to a socket: the kernel's own call of vectors makes none of that, where the ring's sends a datagram which has none
abbrev pub sends_nothing : Submission → Transfer → Bool
sends_nothing e t = is_write e.opcode && t.is_socket && t.length == 0

-- so that is sent, however the call is to be made, with MSG_DONTWAIT (64). sendto(2)
abbrev pub call_of : Submission → Vectors → Transfer → Option Task → SystemCall
call_of e v t task =
    if sends_nothing e t then of_four sys.sendto (word_of v.fd) 0 0 64 else
    if is_read e.opcode then read_of v (offset_of t e.off) (flags_of e task) else
    by_vectors sys.pwritev2 v (offset_of t e.off) (flags_of e task)
