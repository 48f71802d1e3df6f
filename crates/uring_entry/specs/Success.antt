-- When a request has succeeded, and whether its end posts a completion.
use Rattle.std.specs.Prelude.{ℤ, pos, Bool, not, ◌&&◌, int_le, if◌then◌else◌}
use Rattle.std.specs.Ordering.{int_eq}
use Rattle.uring_entry.specs.Flags.{skip_success}
use Rattle.uring_entry.specs.Layout.{Sqe, len_of, has}
use Rattle.uring_entry.specs.Preparation.{is_transfer, is_cancel_all}

-- Whether a request of this entry that ended with this result succeeded: a read or a write that moved all its bytes, a cancel of all that gave a number, also 0, and anything else that gave 0. io_uring_enter(2), IOSQE_IO_LINK, on short reads and writes; that of a cancel of all is our own rule
abbrev pub is_success : Sqe → ℤ → Bool
is_success e res =
    if is_cancel_all e then int_le (pos 0) res else
    int_eq res (pos (if is_transfer e then len_of e else 0))

-- whether an end with this result posts a completion: each does but a success that the entry asks to skip. io_uring_enter(2), IOSQE_CQE_SKIP_SUCCESS
abbrev pub posts_completion : Sqe → ℤ → Bool
posts_completion e res = not (has skip_success e && is_success e res)
