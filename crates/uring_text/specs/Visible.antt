-- Bytes as text in which none is invisible. Its form is our own rule.
use Rattle.std.specs.Prelude.{ℕ, ◌==◌, ◌||◌, nat_lt, List, [], ◌∷◌, ◌++◌, if◌then◌else◌, codes}
use Rattle.hex.specs.Hex.{encode_lower}

-- a byte as `\x` and two lower case hexadecimal digits
abbrev pub coded : ℕ → List ℕ
coded b = codes "\\x" ++ encode_lower (b ∷ [])

-- a byte as ASCII that prints
abbrev pub visible_byte : ℕ → List ℕ
visible_byte b =
    if b == 9 then codes "\\t" else
    if b == 13 then codes "\\r" else
    if nat_lt b 32 || nat_lt 126 b then coded b else b ∷ []

abbrev pub visible : List ℕ → List ℕ
visible [] = []
visible (b ∷ bytes) = visible_byte b ++ visible bytes

-- the last byte of a line, which can be seen also if it is a blank
abbrev pub last_byte : ℕ → List ℕ
last_byte b = if b == 32 then coded b else visible_byte b

-- a line with its last byte
abbrev pub visible_line : List ℕ → List ℕ
visible_line [] = []
visible_line (b ∷ []) = last_byte b
visible_line (b ∷ c ∷ line) = visible_byte b ++ visible_line (c ∷ line)
