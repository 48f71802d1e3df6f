-- The lines of bytes. The language of a trace is our own rule.
use Rattle.std.specs.Prelude.{◌≡◌, ◌≢◌, ℕ, List, [], ◌∷◌, ◌++◌}
use Rattle.std.specs.List.{AllByRecursion}

-- a line with its end
abbrev pub ended : List ℕ → List ℕ
ended line = line ++ 10 ∷ []

-- of lines, the newest first, the bytes: each line with its end
abbrev pub joined : List (List ℕ) → List ℕ
joined [] = []
joined (line ∷ before) = joined before ++ ended line

-- no line ends within the bytes
abbrev pub IsUnbroken : List ℕ → Type 0
IsUnbroken line = AllByRecursion (λ b. b ≢ 10) line

-- the bytes are these lines, the newest first, each with its end, and a rest that has none
pub record Splits (bytes : List ℕ) (lines : List (List ℕ)) (rest : List ℕ) : Type 0 where
  pub whole : bytes ≡ joined lines ++ rest
  pub each : AllByRecursion IsUnbroken lines
  pub unbroken : IsUnbroken rest

-- the lines, with the rest as the last one if it has some byte
abbrev pub with_last : List (List ℕ) → List ℕ → List (List ℕ)
with_last lines [] = lines
with_last lines (b ∷ rest) = (b ∷ rest) ∷ lines
