-- The tokens of a line, and what each kind of token stands for. The language of a trace is our own rule.
use Rattle.std.specs.Prelude.{◌≡◌, ◌≢◌, ℕ, ◌<◌, ◌==◌, ◌⊎◌, List, [], ◌∷◌, length, if◌then◌else◌, codes, sum_by}
use Rattle.std.specs.List.{slice_split, AllByRecursion}
use Rattle.hex.specs.Hex.{encode_lower}

-- what stands between the spaces of a line
abbrev pub tokens_of : List ℕ → List (List ℕ)
tokens_of line = slice_split (λ b. b == 32) line

-- the bit of the flag with this letter, 0 for a byte that is none: D drains, L links, H links hard, A is asynchronous, S skips the completion of a success
abbrev pub flag_value : ℕ → ℕ
flag_value letter =
    if letter == 68 then 2 else
    if letter == 76 then 4 else
    if letter == 72 then 8 else
    if letter == 65 then 16 else
    if letter == 83 then 64 else 0

-- no byte of a token comes again after it
abbrev pub NoneAgain : List ℕ → Type 0
NoneAgain [] = Unit {0}
NoneAgain (b ∷ bs) = AllByRecursion (λ c. c ≢ b) bs × NoneAgain bs

-- one or more letters of flags, each once; flags are the bits of all of them
pub record AreLetters (token : List ℕ) (flags : ℕ) : Type 0 where
  pub some : 0 < length token
  pub letters : AllByRecursion (λ letter. 0 < flag_value letter) token
  pub once : NoneAgain token
  pub all : flags ≡ sum_by flag_value token

-- `-` for no flag, or letters
abbrev pub AreFlags : List ℕ → ℕ → Type 0
AreFlags token flags = ((token ≡ codes "-") × (flags ≡ 0)) ⊎ AreLetters token flags

-- `-` for no bytes, else two lower case hexadecimal digits a byte
abbrev pub hex_or_dash : List ℕ → List ℕ
hex_or_dash [] = codes "-"
hex_or_dash (byte ∷ bytes) = encode_lower (byte ∷ bytes)
