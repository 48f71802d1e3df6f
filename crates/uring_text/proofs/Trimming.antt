-- Zeros at the end of bytes.
use Rattle.std.proofs.Common.{◌≡◌, ℕ, ◌-◌, ◌<◌, ◌≤◌, List, [], ◌∷◌, ◌++◌, length, get_or, take, refl, ap, arith}
use Rattle.std.proofs.lemmas.List.{take_more, length-take, get_or-take}
use Rattle.uring_text.specs.Completions.{trimmed, before_others}

-- a zero at the end doesn't count
pub trimmed_zero : (bytes : List ℕ) → trimmed (bytes ++ 0 ∷ []) ≡ trimmed bytes
trimmed_zero [] = refl
trimmed_zero (b ∷ bytes) = ap (before_others b) (trimmed_zero bytes)

-- bytes that don't end with a zero are whole
pub trimmed_whole : (bytes : List ℕ)
    → (0 < length bytes → get_or bytes (length bytes - 1) 0 ≡ 0 → ⊥) → trimmed bytes ≡ bytes
trimmed_whole [] h = refl
trimmed_whole (b ∷ []) h = grind arith
trimmed_whole (b ∷ c ∷ bytes) h =
    grind (arith, (trimmed_whole (c ∷ bytes) (λ lt e. h (omega arith) (grind arith))))

-- a zero at the end is cut off
pub cut_zero : (bytes : List ℕ) (used : ℕ) → 0 < used → used ≤ length bytes
    → get_or bytes (used - 1) 0 ≡ 0 → trimmed (take (used - 1) bytes) ≡ trimmed (take used bytes)
cut_zero bytes used lt le zero_is = grind (arith, (get_or bytes (used - 1) 0), (trimmed_zero (take (used - 1) bytes)), take_more)

-- no zero is left at the end
pub cut_whole : (bytes : List ℕ) (used : ℕ) → used ≤ length bytes
    → (0 < used → get_or bytes (used - 1) 0 ≡ 0 → ⊥) → take used bytes ≡ trimmed (take used bytes)
cut_whole bytes used le h = grind (arith, length-take, trimmed_whole, get_or-take, get_or)
