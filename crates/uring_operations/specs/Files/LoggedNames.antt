-- What is logged of calls that change names. open(2), openat2(2), link(2), symlink(7), path_resolution(7); but where our own rule is named.
use Rattle.std.specs.Prelude.{◌≡◌, ◌≢◌, ◌≤◌, ◌<◌, ◌-◌, get_or, ℕ, ℤ, pos, Bool, false, not, ◌&&◌, ◌||◌, ◌==◌, nat_lt, nat_le, length, List, [], ◌∷◌, if◌then◌else◌}
use Rattle.std.specs.Ordering.{int_eq}
use Rattle.std.specs.Str.{bytes_eq}
use Rattle.uring_operations.specs.declared.files.logged_call.LoggedCall.{LoggedCall}
use Rattle.uring_operations.specs.declared.files.logged_call.LoggedCall.TheVariants.{Open, MakeFolder, MakeLink, Rename}
use Rattle.uring_operations.specs.declared.files.logged_name.LastPart.{LastPart}
use Rattle.uring_operations.specs.Entries.Clocks.{has_some}
use Rattle.uring_entry.specs.Errors.{is_below}

-- a call is logged that changes a name on the run's disk; of a rename either may be. Our own rule
abbrev pub logs_names : LoggedCall → (is_on_disk is_second_on_disk : Bool) → Bool
logs_names Rename is_on_disk is_second_on_disk = is_on_disk || is_second_on_disk
logs_names call is_on_disk is_second_on_disk = is_on_disk

-- a path's last part ends where only slashes (47) stand from there on,
abbrev pub IsEnd : List ℕ → ℕ → Type 0
IsEnd path end =
    (end ≤ length path)
    × ((k : ℕ) → end ≤ k → k < length path → get_or path k 0 ≡ 47)
    × (0 < end → get_or path (end - 1) 0 ≢ 47)

-- and begins after the last slash in front of that. path_resolution(7)
abbrev pub IsBegin : List ℕ → (end begin : ℕ) → Type 0
IsBegin path end begin =
    (begin ≤ end)
    × ((k : ℕ) → begin ≤ k → k < length path → k < end → get_or path k 0 ≢ 47)
    × (0 < begin → get_or path (begin - 1) 0 ≡ 47)

abbrev pub IsLastPart : List ℕ → LastPart → Type 0
IsLastPart path part = IsEnd path part.end × IsBegin path part.end part.begin

-- the last part of a path is a name but for `.` (46) and `..`, which are the folder's and its parent's own, and that of `/`, which is empty. path_resolution(7)
abbrev pub is_entry_name : List ℕ → Bool
is_entry_name part = not (length part == 0) && not (bytes_eq part (46 ∷ [])) && not (bytes_eq part (46 ∷ 46 ∷ []))

-- which file gets a name: that of a descriptor with AT_EMPTY_PATH (4096); with AT_SYMLINK_FOLLOW (1024) that which a symbolic link leads to, and else the link itself, which fstatat(2) finds with AT_SYMLINK_NOFOLLOW (256). linkat(2)
abbrev pub linked_flags : ℕ → ℕ
linked_flags flags =
    if has_some flags 4096 then 4096 else
    if has_some flags 1024 then 0 else 256

-- an open makes the file that a symbolic link leads to, through 40 links at most, unless it has O_EXCL (128) or O_NOFOLLOW (131072). open(2), path_resolution(7)
abbrev pub follows_link : (flags count : ℕ) → Bool
follows_link flags count = nat_lt count 40 && not (has_some flags 131200)

-- struct open_how has 24 bytes, and what is newer stands after these. openat2(2)
abbrev pub says_how : ℕ → Bool
says_how size = nat_le 24 size

-- the end of a call says its result; of an open that 0 which tells of no error. Our own rule
abbrev pub end_result : LoggedCall → ℤ → ℤ
end_result Open res = if is_below res then res else pos 0
end_result call res = res

-- what was made is told at the call's end, since it has no inode before: a file, a folder and a symbolic link. Our own rule
abbrev pub tells_file : LoggedCall → ℤ → Bool
tells_file Open res = not (is_below res)
tells_file MakeFolder res = int_eq res (pos 0)
tells_file MakeLink res = int_eq res (pos 0)
tells_file call res = false
