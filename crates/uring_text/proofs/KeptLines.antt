-- What is kept of a line, byte by byte.
use Rattle.std.proofs.Common.{◌≡◌, ℕ, ◌<◌, ◌≤◌, Bool, true, false, ltb, List, [], ◌∷◌, ◌++◌, length, take, sym, ap, ◌∙◌, arith}
use Rattle.uring_text.proofs.Common.{length-append, length-take, ltb-false, take-append-le, take_all}
use Rattle.uring_text.specs.KeptLine.{KeptLine, kept_of}

-- the kept lines that fields make
abbrev made : List ℕ → Bool → KeptLine
made first is_long = record { first = first; is_long = is_long }

module _ (n : ℕ) (line first : List ℕ) (is_long : Bool) (b : ℕ) (e : made first is_long ≡ made (take n line) (ltb n (length line))) where
  more : length first < n → made (first ++ b ∷ []) is_long ≡ made (take n (line ++ b ∷ [])) (ltb n (length (line ++ b ∷ [])))
  more lt = grind (arith, take_all, length-append, length-take)

  full : n ≤ length first → made first true ≡ made (take n (line ++ b ∷ [])) (ltb n (length (line ++ b ∷ [])))
  full le = grind (arith, take-append-le, length-append, length-take)

-- a byte of a line that has room
pub kept_more : (line first : List ℕ) (is_long : Bool) (b : ℕ) → length first < 300
    → made first is_long ≡ kept_of line → made (first ++ b ∷ []) is_long ≡ kept_of (line ++ b ∷ [])
kept_more line first is_long b lt e =
    more 300 line first is_long b e lt

-- a byte past the room
pub kept_full : (line first : List ℕ) (is_long : Bool) (b : ℕ) → 300 ≤ length first
    → made first is_long ≡ kept_of line → made first true ≡ kept_of (line ++ b ∷ [])
kept_full line first is_long b le e =
    full 300 line first is_long b e le

-- a line that is kept whole
pub whole_kept : (line first : List ℕ) → made first false ≡ kept_of line → first ≡ line
whole_kept line first e = ap (λ (k : KeptLine). k.first) e ∙ take_all 300 line (ltb-false 300 (length line) (sym (ap (λ (k : KeptLine). k.is_long) e)))
