-- Glue. What is kept of a line while it is read.
use Rattle.std.specs.Prelude.{ℕ, Bool, List, length, take, nat_lt}

-- its first 300 bytes, and whether it has more
pub record KeptLine : Type 0 where
  pub first : List ℕ
  pub is_long : Bool

-- what is kept of this line
abbrev pub kept_of : List ℕ → KeptLine
kept_of line = record { first = take 300 line; is_long = nat_lt 300 (length line) }
