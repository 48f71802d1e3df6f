-- The text of a completion. The language is our own rule.
use Rattle.std.specs.Prelude.{ℕ, zero, suc, List, [], ◌∷◌, ◌++◌, codes}
use Rattle.std.specs.Fmt.{decimal, signed_decimal}
use Rattle.uring_entry.specs.Layout.{Cqe}
use Rattle.uring_text.specs.Tokens.{hex_or_dash}

-- a byte put before others; a zero before none is dropped
abbrev pub before_others : ℕ → List ℕ → List ℕ
before_others zero [] = []
before_others (suc b) [] = suc b ∷ []
before_others b (c ∷ bytes) = b ∷ c ∷ bytes

-- bytes without the zeros at their end
abbrev pub trimmed : List ℕ → List ℕ
trimmed [] = []
trimmed (b ∷ bytes) = before_others b (trimmed bytes)

-- a completion: its user data, its result, and its bytes without the zeros at their end
abbrev pub completion_text : Cqe → List ℕ
completion_text c =
    codes "cqe " ++ decimal c.user_data ++ 32 ∷ [] ++ signed_decimal c.res ++ 32 ∷ [] ++ hex_or_dash (trimmed c.payload)
