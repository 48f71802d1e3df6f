-- What the kernel looks at of the buffers that an entry gives, before it is carried out, and how much of them a transfer moves. readv(2), ERRORS and NOTES; read(2), NOTES; the order is what Linux 6.18 does.
use Rattle.std.specs.Prelude.{ℕ, ℤ, pos, ◌+◌, ◌-◌, ◌^◌, Bool, min, nat_lt, nat_le, if◌then◌else◌}
use Rattle.uring_operations.specs.declared.entries.submission.Submission.{Submission}
use Rattle.uring_operations.specs.Entries.Clocks.{has_some}
use Rattle.uring_entry.specs.Errors.{error, is_below}

-- after the last address that a program of 64 bits may have on x86-64
abbrev pub no_address : ℕ
no_address = 2 ^ 47 - 4096

-- the most bytes that a transfer moves: the whole pages below 2^31
abbrev pub most : ℕ
most = 2 ^ 31 - 4096

-- no program can have so many bytes there
abbrev pub is_past_all : ℕ → ℕ → Bool
is_past_all from size = nat_lt no_address (from + size)

-- nor what a transfer moves of a buffer there
abbrev pub is_out_of_reach : ℕ → ℕ → Bool
is_out_of_reach from size = is_past_all from (min size most)

-- a lone vector is looked at as one buffer is, and of several each as a whole
abbrev pub is_vector_out_of_reach : ℕ → ℕ → Bool → Bool
is_vector_out_of_reach from size is_lone = if is_lone then is_out_of_reach from size else is_past_all from size

-- the fault of vectors, or 0, with one more after those that have the fault `before`: -22 (EINVAL) if the length of one is negative in 64 bits, else -14 (EFAULT) if no program can have one. Where a provided buffer takes their place (IOSQE_BUFFER_SELECT, 32) they have none
abbrev pub vector_fault : Submission → ℤ → ℕ → ℕ → Bool → ℤ
vector_fault e before from size is_lone =
    if has_some e.flags 32 then pos 0 else
    if nat_le (2 ^ 63) size then error 22 else
    if is_below before then before else
    if is_vector_out_of_reach from size is_lone then error 14 else pos 0

-- how many bytes a transfer moves at most, of buffers with so many and one more
abbrev pub length_with : ℕ → ℕ → ℕ
length_with length size = min (length + size) most
