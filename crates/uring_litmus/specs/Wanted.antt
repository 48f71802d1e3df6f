-- The lines of which something is claimed, and the parts that they may have. Our own rule.
use Rattle.std.specs.Prelude.{◌≡◌, ◌⊎◌, ◌%◌, ◌^◌, ◌<◌, ◌≤◌, ℕ, ℤ, List, [], ◌∷◌, ◌++◌, length, codes, All}
use Rattle.std.specs.Fmt.{decimal, signed_decimal}
use Rattle.uring_text.specs.Spelling.{IsFile, SpellsNumber}
use Rattle.uring_text.specs.Tokens.{tokens_of}
use Rattle.uring_litmus.specs.Lines.{joined}

-- there is no comma with a blank after it
abbrev pub IsWhole : List ℕ → Type 0
IsWhole part = (before after : List ℕ) → part ≡ before ++ (codes ", " ++ after) → ⊥

-- A line is cut at each comma with a blank after it.
pub record IsCut (line : List ℕ) (parts : List (List ℕ)) : Type 0 where
  pub some : 0 < length parts
  pub all : line ≡ joined parts
  pub whole : All IsWhole parts

-- a lower case hexadecimal digit
abbrev pub IsHexDigit : ℕ → Type 0
IsHexDigit b = ((48 ≤ b) × (b ≤ 57)) ⊎ ((97 ≤ b) × (b ≤ 102))

-- two such digits for each of one or more bytes
pub record IsHex (token : List ℕ) : Type 0 where
  pub some : 0 < length token
  pub pairs : length token % 2 ≡ 0
  pub digits : All IsHexDigit token

-- bytes: `-` for none, or digits
abbrev pub IsData : List ℕ → Type 0
IsData token = (token ≡ codes "-") ⊎ IsHex token

-- a token is a number below a limit
abbrev pub IsNumber : ℕ → List ℕ → Type 0
IsNumber limit token = (n : ℕ) × SpellsNumber limit token n

-- The tokens of a completion: its user data, its result, and its bytes.
pub record IsCompletion (tokens : List (List ℕ)) : Type 0 where
  pub user_data : ℕ
  pub res : ℤ
  pub shown : List ℕ
  pub are : tokens ≡ codes "cqe" ∷ decimal user_data ∷ signed_decimal res ∷ shown ∷ []
  pub user_data_limit : user_data < 2 ^ 64
  pub res_limit : IsFile res
  pub bytes : IsData shown

-- The tokens of a file that an outcome leaves: its descriptor, how it stands, and its bytes.
pub record IsFileLeft (tokens : List (List ℕ)) : Type 0 where
  pub fd : ℕ
  pub len : ℕ
  pub writes : ℕ
  pub synced : ℕ
  pub shown : List ℕ
  pub are : tokens ≡ codes "file" ∷ decimal fd ∷ codes "len" ∷ decimal len ∷ codes "writes" ∷ decimal writes ∷ codes "synced" ∷ decimal synced ∷ codes "data" ∷ shown ∷ []
  pub fd_limit : fd < 2 ^ 32
  pub len_limit : len < 2 ^ 32
  pub writes_limit : writes < 2 ^ 64
  pub synced_limit : synced < 2 ^ 64
  pub bytes : IsData shown

-- The tokens of what a power failure leaves of a file: its descriptor, its length, and its bytes.
pub record IsFileShown (tokens : List (List ℕ)) : Type 0 where
  pub fd : ℕ
  pub len : ℕ
  pub shown : List ℕ
  pub are : tokens ≡ codes "file" ∷ decimal fd ∷ codes "len" ∷ decimal len ∷ codes "data" ∷ shown ∷ []
  pub fd_limit : fd < 2 ^ 32
  pub len_limit : len < 2 ^ 32
  pub bytes : IsData shown

-- what an outcome may have, or what a power failure shows: `none`, a completion, or a file
abbrev pub IsPart : List ℕ → Type 0
IsPart part = (part ≡ codes "none") ⊎ IsCompletion (tokens_of part) ⊎ IsFileLeft (tokens_of part)
    ⊎ IsFileShown (tokens_of part)
