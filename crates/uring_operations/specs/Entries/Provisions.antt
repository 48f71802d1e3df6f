-- The faults of an entry that provides buffers, in the order in which Linux 6.18 was seen to find them. io_uring_enter(2), IORING_OP_PROVIDE_BUFFERS.
use Rattle.std.specs.Prelude.{ℕ, ℤ, pos, negsuc, ◌+◌, ◌*◌, ◌^◌, Bool, not, ◌&&◌, ◌==◌, nat_lt, nat_le, if◌then◌else◌}
use Rattle.uring_operations.specs.declared.entries.submission.Submission.{Submission}
use Rattle.uring_operations.specs.Entries.Buffers.{no_address}
use Rattle.uring_entry.specs.Errors.{error}

-- how many buffers, or 0 of a number below 0
abbrev pub count_of : ℤ → ℕ
count_of (pos n) = n
count_of (negsuc _) = 0

-- 1 to 65,536 of them
abbrev pub has_count : ℤ → Bool
has_count fd = nat_lt 0 (count_of fd) && nat_le (count_of fd) 65536

-- where the last of them ends
abbrev pub end_of : Submission → ℕ
end_of e = e.addr + count_of e.fd * e.len

-- -7 (E2BIG) of a first number past 16 bits, and -22 (EINVAL) of a last one that is, or 0
abbrev pub number_fault : ℕ → ℕ → ℤ
number_fault first count =
    if nat_le (2 ^ 16) first then error 7 else
    if nat_lt (2 ^ 16) (first + count) then error 22 else pos 0

-- -7 of a count that there can't be, -22 of no bytes, -75 (EOVERFLOW) of an end past 64 bits, -14 (EFAULT) of one past the last address, and then that of its numbers
abbrev pub provision_fault : Submission → ℤ
provision_fault e =
    if not (has_count e.fd) then error 7 else
    if e.len == 0 then error 22 else
    if nat_le (2 ^ 64) (end_of e) then error 75 else
    if nat_lt no_address (end_of e) then error 14 else
    number_fault e.off (count_of e.fd)
