-- What is logged of the bytes of a write, and how many. writev(2), readv(2), inode(7); but where our own rule is named.
use Rattle.std.specs.Prelude.{◌≡◌, ◌<◌, ◌≤◌, ℕ, ℤ, pos, ◌+◌, ◌-◌, ◌*◌, ◌/◌, ◌%◌, ◌^◌, Bool, not, ◌&&◌, ◌==◌, min, nat_lt, nat_le, Option, Some, None, if◌then◌else◌}
use Rattle.std.specs.Ordering.{int_eq}
use Rattle.uring_operations.specs.declared.files.logged_bytes.Written.{Written}
use Rattle.uring_operations.specs.declared.files.logged_bytes.Written.TheVariants.{Nothing, Print, File}
use Rattle.uring_operations.specs.Entries.Buffers.{length_with}
use Rattle.uring_operations.specs.Entries.Clocks.{has_some}

-- what a write is logged as: to a file on the run's disk as that, to the standard output as what the program says, and one of no bytes as nothing. Our own rule
abbrev pub written_as : (length : ℕ) → (is_on_disk is_output : Bool) → Written
written_as length is_on_disk is_output =
    if length == 0 then Nothing else
    if is_on_disk then File else
    if is_output then Print else Nothing

-- a call that has no vector moves nothing, and one of more than IOV_MAX, 1024, is refused. writev(2), ERRORS
abbrev pub may_have_vectors : ℕ → Bool
may_have_vectors count = not (count == 0) && nat_le count 1024

-- a kernel writes up to the first byte that can't be read, and no more than one call moves; an event is one call as well. After one that couldn't be read whole there is nothing. Our own rule
abbrev pub logged_of_vector : (before length : ℕ) → (is_whole : Bool) → ℕ
logged_of_vector before length is_whole = if is_whole then length_with before length - before else 0

-- a page has 4,096 bytes, of which all can be read or none: so the first byte is asked for, and that at which each later page begins. No run of bytes goes past the last address
abbrev pub is_run : (begin length : ℕ) → Bool
is_run begin length = nat_lt (begin + length) (2 ^ 64)

abbrev pub page_begin : (address number : ℕ) → ℕ
page_begin address number = (address / 4096 + number) * 4096

abbrev pub page_after : (address number : ℕ) → Option ℕ
page_after address number =
    if nat_lt (page_begin address number) (2 ^ 64) then Some (page_begin address number) else None

abbrev pub place_of : (begin number : ℕ) → ℕ
place_of begin number = if number == 0 then begin else page_begin begin number

abbrev pub asked_at : (begin length number : ℕ) → Option ℕ
asked_at begin length number =
    if is_run begin length && nat_lt (place_of begin number) (begin + length)
    then Some (place_of begin number) else None

-- so those bytes can be read that stand before the first place where none could
abbrev pub read_until : (begin length : ℕ) → Option ℕ → ℕ
read_until begin length None = length
read_until begin length (Some at) = at - begin

abbrev pub readable_bytes : (begin length count : ℕ) → ℕ
readable_bytes begin length count =
    if is_run begin length then read_until begin length (asked_at begin length count) else 0

-- so each byte that can be read stands in the page of a place where one could, and not in front of it
abbrev pub IsReadBy : (begin length count k : ℕ) → Type 0
IsReadBy begin length count k =
    (number : ℕ) × (number < count) × (at : ℕ) × (asked_at begin length number ≡ Some at)
    × (at ≤ begin + k) × (at / 4096 ≡ (begin + k) / 4096)

abbrev pub ReadsWhatWasRead : Type 0
ReadsWhatWasRead = (begin length count k : ℕ) → k < readable_bytes begin length count
    → IsReadBy begin length count k

-- a path has at most PATH_MAX, 4,096, bytes with the 0 at its end, path_resolution(7); what stands in another page than that may be where nothing is
abbrev pub path_part : (at so_far : ℕ) → ℕ
path_part at so_far = min (4096 - at % 4096) (4096 - so_far)

-- an event is written by one call, whose first three parts are the event and its paths: that leaves 1,021 of 1,024. Of more vectors the last is all that are left. Our own rule
abbrev pub parts_alone : ℕ → ℕ
parts_alone count = if nat_le count 1021 then count else 1020

-- an event has 72 bytes, after which its paths and its bytes stand. Our own rule
abbrev pub event_size : (path second_path bytes : ℕ) → ℕ
event_size path second_path bytes = 72 + path + second_path + bytes

-- of what couldn't be written whole nobody could read what stands after it: the log ends there, and says so by its mode, which lets its owner write no more (S_IWUSR, 128). inode(7). Our own rule
abbrev pub log_goes_on : (written : ℤ) → (size : ℕ) → Bool
log_goes_on written size = int_eq written (pos size)

abbrev pub takes_events : (mode : ℕ) → Bool
takes_events mode = has_some mode 128
