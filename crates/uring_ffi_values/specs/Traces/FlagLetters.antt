-- Flags as the letters of a trace. The language of a trace is our own rule.
use Rattle.std.specs.Prelude.{ℕ, ◌^◌, ◌<◌, Bool, not, ◌==◌, List, length, bit_and, codes, if◌then◌else◌}
use Rattle.std.specs.List.{filter}
use Rattle.uring_text.specs.Tokens.{flag_value, AreFlags}

-- the flag of this letter is among the flags
abbrev pub has_flag : (flags letter : ℕ) → Bool
has_flag flags letter = not (bit_and flags (flag_value letter) == 0)

-- those that have a letter, in this order
abbrev pub letters_of : (flags : ℕ) → List ℕ
letters_of flags = filter (λ letter. has_flag flags letter) (codes "DLHAS")

-- the letters, or `-` if there are none
abbrev pub flags_text : (flags : ℕ) → List ℕ
flags_text flags = if length (letters_of flags) == 0 then codes "-" else letters_of flags

-- the text is read as the flags that have a letter, which are these bits
abbrev pub SpellsFlags : Type 0
SpellsFlags = (flags : ℕ) → flags < 2 ^ 8 → AreFlags (flags_text flags) (bit_and flags 94)
