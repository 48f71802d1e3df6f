-- What the kernel's lists are made of: words with blanks between, parts, and numbers.
use Rattle.std.specs.Prelude.{ℕ, Bool, not, ◌&&◌, ◌==◌, ◌+◌, ◌*◌, ◌-◌, nat_le, nat_lt, List, [], drop, length, slice_get, if◌then◌else◌}
use Rattle.std.specs.List.{list_all, fold, slice_split, before_first, position_or_len}
use Rattle.std.specs.Option.{unwrap_or}

-- where a byte stands first, or how many there are
abbrev pub position_of : (byte : ℕ) → List ℕ → ℕ
position_of byte bytes = position_or_len (λ other. other == byte) bytes

-- words have blanks between them: a line's first one, and what stands after that
abbrev pub first_word : List ℕ → List ℕ
first_word line = before_first (λ byte. byte == 32) line

abbrev pub blanks_of : List ℕ → ℕ
blanks_of text = position_or_len (λ byte. not (byte == 32)) text

abbrev pub after_word : List ℕ → List ℕ
after_word line = let rest = drop (position_of 32 line) line in drop (blanks_of rest) rest

-- a word's parts have colons between them
abbrev pub part_of : (word : List ℕ) → (place : ℕ) → List ℕ
part_of word place = unwrap_or (slice_get (slice_split (λ byte. byte == 58) word) place) []

-- 0 to 9, and a to f for 10 to 15. Any other byte is no digit, and has a value that is past them
abbrev pub digit_value : ℕ → ℕ
digit_value byte =
    if nat_le 48 byte && nat_le byte 57 then byte - 48 else
    if nat_le 97 byte && nat_le byte 102 then byte - 87 else 16

-- a number, decimal by the base 10, and hexadecimal by 16
abbrev pub is_number : (base : ℕ) → List ℕ → Bool
is_number base digits = not (length digits == 0) && list_all (λ digit. nat_lt (digit_value digit) base) digits

abbrev pub value_of : (base : ℕ) → List ℕ → ℕ
value_of base digits = fold (λ value digit. value * base + digit_value digit) 0 digits
