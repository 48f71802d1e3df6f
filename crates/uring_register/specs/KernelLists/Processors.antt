-- Which processors a list names, as the kernel lists those that are online: `0-3,5,7-9`. cpuset(7), "Formats", list format.
use Rattle.std.specs.Prelude.{ℕ, Bool, ◌&&◌, ◌==◌, nat_le, nat_lt, List, length, if◌then◌else◌}
use Rattle.std.specs.List.{list_any, slice_split, before_first, after_first}
use Rattle.uring_register.specs.KernelLists.Texts.{is_number, position_of, value_of}

abbrev pub is_between : (first last : List ℕ) → ℕ → Bool
is_between first last number =
    is_number 10 first && is_number 10 last && nat_le (value_of 10 first) number && nat_le number (value_of 10 last)

-- a part is a number, or two with a hyphen between, and has what stands from the one to the other. Any other has none, which is our own rule
abbrev pub has_number : List ℕ → ℕ → Bool
has_number part number =
    if nat_lt (position_of 45 part) (length part)
    then is_between (before_first (λ byte. byte == 45) part) (after_first (λ byte. byte == 45) part) number
    else is_between part part number

-- a list has its parts in one line, with commas between
abbrev pub lists_number : List ℕ → ℕ → Bool
lists_number list number =
    list_any (λ part. has_number part number) (slice_split (λ byte. byte == 44) (before_first (λ byte. byte == 10) list))
