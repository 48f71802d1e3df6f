-- The tokens that numbers and bytes are written as. The language is our own rule.
use Rattle.std.specs.Prelude.{◌≡◌, ℕ, ℤ, pos, negsuc, ◌<◌, ◌≤◌, ◌^◌, List, length}
use Rattle.std.specs.List.{AllByRecursion}
use Rattle.std.specs.Fmt.{decimal}

-- a signed number of 32 bits
abbrev pub IsFile : ℤ → Type 0
IsFile (pos n) = n < 2 ^ 31
IsFile (negsuc n) = n < 2 ^ 31

-- bytes, so many of them
pub record AreBytes (bytes : List ℕ) (least most : ℕ) : Type 0 where
  pub few : least ≤ length bytes
  pub enough : length bytes ≤ most
  pub each : AllByRecursion (λ b. b < 256) bytes

-- the token is the number, which lies below the limit
abbrev pub SpellsNumber : ℕ → List ℕ → ℕ → Type 0
SpellsNumber limit token n = (token ≡ decimal n) × (n < limit)

-- the token is no number below the limit
abbrev pub IsNoNumber : ℕ → List ℕ → Type 0
IsNoNumber limit token = (n : ℕ) → SpellsNumber limit token n → ⊥
