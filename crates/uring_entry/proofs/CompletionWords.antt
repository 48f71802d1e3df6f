-- The words of a completion.
use Rattle.std.proofs.Common.{◌≡◌, ◌↔◌, ℕ, ◌%◌, ◌^◌, ◌<◌, ap, refl, arith, List, [], ◌∷◌, ◌++◌, length}
use Rattle.std.proofs.lemmas.Nat.{from_le_bytes-to_le_bytes_8}
use Rattle.uring_entry.proofs.Common.{AreWords, HasWords, append-nil, bytes_of, completion_of, from_le_bytes, to_le_bytes, w32, w64, without_flags}
use Rattle.std.proofs.lemmas.Int.{of_z-to_z}

-- words of 64 bits that have the same bytes are the same
pub same_words : (xs ys : List ℕ) → AreWords xs → AreWords ys → bytes_of xs ≡ bytes_of ys → xs ≡ ys
same_words [] [] p q e = refl
same_words (x ∷ xs) (y ∷ ys) p q e =
    let parts : (to_le_bytes w64 x ≡ to_le_bytes w64 y) × (bytes_of xs ≡ bytes_of ys) = (cc, cc) in
    let first = ap (from_le_bytes w64) parts.0 in
    cc (first, from_le_bytes-to_le_bytes_8 x p.0, from_le_bytes-to_le_bytes_8 y q.0, same_words xs ys p.1 q.1 parts.1)
same_words _ _ p q e = absurd (grind arith)

-- two words, and others after them
pub words_after : (a b : ℕ) (rest more : List ℕ) → a < 2 ^ 64 → b < 2 ^ 64 → rest ≡ more
    → AreWords more → AreWords (a ∷ b ∷ (rest ++ []))
words_after a b rest more first second same range = grind (arith, append-nil)

kept_words : (a b : ℕ) (rest again : List ℕ) → AreWords rest
    → HasWords (completion_of (a ∷ b ∷ rest)) again → again ≡ without_flags (a ∷ b ∷ rest)
kept_words a b rest (x ∷ y ∷ more) range h =
    cc (h.first, of_z-to_z w32 (b % 2 ^ 32) (omega arith), same_words more rest h.range.1.1 range h.payload)
kept_words a b rest _ range h = absurd (grind (arith, h.size))

-- ten words are those of the completion that they hold, but for the flags
pub words_are_kept : (words again : List ℕ) → length words ≡ 10 → AreWords words
    → HasWords (completion_of words) again ↔ (again ≡ without_flags words)
words_are_kept (a ∷ b ∷ rest) again size range = (
  λ h. kept_words a b rest again range.1.1 h,
  λ e. grind (arith, range),
)
words_are_kept _ again size range = absurd (grind arith)
