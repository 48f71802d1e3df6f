-- What a path may be that an entry points to, and the name of an attribute. path_resolution(7); statx(2) and linkat(2), AT_EMPTY_PATH; xattr(7). The numbers are those that Linux 6.18 gives.
use Rattle.std.specs.Prelude.{ℕ, ℤ, pos, Bool, not, ◌&&◌, ◌||◌, ◌==◌, nat_le, if◌then◌else◌}
use Rattle.uring_operations.specs.declared.entries.submission.Submission.{Submission}
use Rattle.uring_operations.specs.Entries.Clocks.{has_some}
use Rattle.uring_entry.specs.Errors.{error}

-- a STATX and a LINKAT may act on their descriptor itself: AT_EMPTY_PATH is 4096. To an OPENAT that number is O_DSYNC
abbrev pub may_be_empty : Submission → Bool
may_be_empty e = (e.opcode == 21 || e.opcode == 39) && has_some e.op_flags 4096

-- of a path without an end -36 (ENAMETOOLONG), and of an empty one -2 (ENOENT), where it may not be empty
abbrev pub path_fault : Bool → ℕ → Bool → ℤ
path_fault may_be_empty length has_end =
    if not has_end then error 36 else
    if length == 0 && not may_be_empty then error 2 else pos 0

-- FSETXATTR, SETXATTR, FGETXATTR and GETXATTR
abbrev pub is_of_attributes : Submission → Bool
is_of_attributes e = nat_le 41 e.opcode && nat_le e.opcode 44

-- the name of an attribute has 1 to 255 letters, else -34 (ERANGE)
abbrev pub attribute_fault : ℕ → Bool → ℤ
attribute_fault length has_end =
    if not has_end || length == 0 || not (nat_le length 255) then error 34 else pos 0

-- the fault of the path that an entry acts on, or of its second path, which is of so many letters, or of what it has in that place, the name of an attribute; or 0
abbrev pub name_fault : Submission → Bool → ℕ → Bool → ℤ
name_fault e is_second length has_end =
    if is_second && is_of_attributes e then attribute_fault length has_end else
    path_fault (not is_second && may_be_empty e) length has_end
