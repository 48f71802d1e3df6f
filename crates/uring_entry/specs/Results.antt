-- The results that an operation may give on files that nobody knows.
use Rattle.std.specs.Prelude.{ℕ, ℤ, pos, negsuc, neg_ℤ, Bool, not, ◌&&◌, int_le, min, ◌-◌, ◌^◌, if◌then◌else◌}
use Rattle.std.specs.Ordering.{int_eq}
use Rattle.uring_entry.specs.declared.errno.TheConstants.{ECANCELED}
use Rattle.uring_entry.specs.Layout.{Sqe, len_of}
use Rattle.uring_entry.specs.Preparation.{is_transfer, is_on_file}

-- whether a result is an error that an operation gives by itself: the negative of a number from 1 to 4,095, and not that of ECANCELED, with which no operation of its own ends. errno(3), and the numbers that a system call may return
abbrev pub is_own_error : ℤ → Bool
is_own_error res =
    int_le (negsuc 4094) res && int_le res (negsuc 0) && not (int_eq res (neg_ℤ ECANCELED))

-- whether a request of this entry may end with an error of its own: one that is on a file, as a read, a write or an fsync
abbrev pub may_fail : Sqe → Bool
may_fail e = is_on_file e

-- the greatest result of a request of this entry: the length of a read or a write, as far as a result can tell it, and 0 of another
abbrev pub greatest_result : Sqe → ℕ
greatest_result e = if is_transfer e then min (len_of e) (2 ^ 31 - 1) else 0

-- whether a running request of this entry may end with this result, whatever its file has: a read or a write with 0 to its length or an error, an fsync with 0 or an error, and a no-op with 0. read(2), write(2), fsync(2)
abbrev pub may_end : Sqe → ℤ → Bool
may_end e res =
    if is_own_error res then may_fail e else int_le (pos 0) res && int_le res (pos (greatest_result e))
