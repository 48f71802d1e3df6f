-- The lines of bytes as bytes come in.
use Rattle.std.proofs.Common.{◌≡◌, ◌≢◌, ℕ, List, [], ◌∷◌, ◌++◌, sym, append_assoc, arith}
use Rattle.uring_text.proofs.Common.{AllByRecursion, append-nil}
use Rattle.uring_text.specs.Lines.{IsUnbroken, Splits, with_last, joined}

unbroken_more : (line : List ℕ) (b : ℕ) → b ≢ 10 → IsUnbroken line → IsUnbroken (line ++ b ∷ [])
unbroken_more [] b ne h = (ne, tt)
unbroken_more (c ∷ line) b ne h = (h.0, unbroken_more line b ne h.1)

-- a byte more of the rest
pub split_more : (bytes : List ℕ) (lines : List (List ℕ)) (rest : List ℕ) (b : ℕ) → b ≢ 10
    → Splits bytes lines rest → Splits (bytes ++ b ∷ []) lines (rest ++ b ∷ [])
split_more bytes lines rest b ne h =
    grind (arith, (append_assoc (joined lines) rest (b ∷ [])), (unbroken_more rest b ne h.unbroken))

-- the end of the rest
pub split_end : (bytes : List ℕ) (lines : List (List ℕ)) (rest : List ℕ) → Splits bytes lines rest
    → Splits (bytes ++ 10 ∷ []) (rest ∷ lines) []
split_end bytes lines rest h = grind (arith, append_assoc, append-nil)

-- lines with their ends
pub split_whole : (lines : List (List ℕ)) → AllByRecursion IsUnbroken lines
    → Splits (joined lines) lines []
split_whole lines each = assumption (sym (append-nil (joined lines)))

-- a rest of some bytes is the last line
pub last_some : (lines : List (List ℕ)) (rest : List ℕ) → rest ≢ []
    → with_last lines rest ≡ rest ∷ lines
last_some lines rest some = grind arith
