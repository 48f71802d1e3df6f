-- What the flags of a no-op do. <linux/io_uring.h>: IORING_NOP_INJECT_RESULT is 1, FILE 2, FIXED_FILE 4, FIXED_BUFFER 8 and TW 16, which changes nothing that is seen; what Linux 6.18 was seen to do. CQE32 (32) isn't served: -22 is what a ring with small completions says.
use Rattle.std.specs.Prelude.{ℕ, ℤ, pos, negsuc, ◌-◌, ◌^◌, Bool, ◌&&◌, ◌==◌, nat_lt, if◌then◌else◌}
use Rattle.uring_operations.specs.declared.entries.submission.Submission.{Submission}
use Rattle.uring_operations.specs.Entries.Clocks.{has_some}

-- it ends with -9 (EBADF) unless its descriptor is open, or its slot has a file
abbrev pub wants_file : Submission → Bool
wants_file e = e.opcode == 0 && has_some e.op_flags 2

-- that is a slot: IORING_NOP_FIXED_FILE says so, as IOSQE_FIXED_FILE does
abbrev pub is_of_slot : Submission → Bool
is_of_slot e = e.opcode == 0 && has_some e.op_flags 4

-- it ends with -14 (EFAULT) unless its slot has a registered buffer
abbrev pub wants_buffer : Submission → Bool
wants_buffer e = e.opcode == 0 && has_some e.op_flags 8

-- 32 bits, as a number with a sign
abbrev pub signed : ℕ → ℤ
signed n = if nat_lt n (2 ^ 31) then pos n else negsuc (2 ^ 32 - 1 - n)

-- what a no-op ends with that has found what it wants: the number in the place of its length, if it is to inject that, else 0
abbrev pub result_of : Submission → ℤ
result_of e = if has_some e.op_flags 1 then signed e.len else pos 0
