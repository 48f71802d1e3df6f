-- The dropped word, which the dispatcher stores and the application loads, if such a word lies between the ends. Our own rule.
use Rattle.std.specs.Prelude.{◌≡◌, ℕ, List, [], ◌∷◌, ◌++◌, Option, Some, None}

-- this word after those stored or loaded before, if there is such a word
abbrev pub with_word : Option (List ℕ) → ℕ → Option (List ℕ)
with_word None word = None
with_word (Some words) word = Some (words ++ word ∷ [])

-- The words loaded, one after the other, are words that were had, in order: each is the one loaded before it, or was had later.
abbrev pub WereHad : (had loaded : List ℕ) → Type 0
WereHad had [] = Unit {0}
WereHad had (w ∷ ws) =
    (before : List ℕ) × (after : List ℕ) × (had ≡ before ++ w ∷ after) × WereHad (w ∷ after) ws

-- The words that the application loaded are, in order, words that the dispatcher stored, or the 0 before them. Both ends know of such a word, or neither does.
abbrev pub WereStored : (stored loaded : Option (List ℕ)) → Type 0
WereStored (Some stored) (Some loaded) = WereHad (0 ∷ stored) loaded
WereStored (Some stored) None = ⊥
WereStored None (Some loaded) = ⊥
WereStored None None = Unit {0}
