-- Bytes have lines in one way.
use Rattle.std.proofs.Common.{◌≡◌, ℕ, List, [], ◌∷◌, ◌++◌, refl, sym, subst, ◌∙◌, append_assoc, arith}
use mathlib.Core.List.{head-eq_of_cons-eq, tail-eq_of_cons-eq}
use Rattle.std.specs.List.{AllByRecursion}
use Rattle.uring_text.specs.Lines.{IsUnbroken, Splits, joined}

-- what has the end of a line is broken
broken : (a r : List ℕ) → IsUnbroken (a ++ 10 ∷ r) → ⊥
broken [] r h = h.0 refl
broken (b ∷ a) r h = broken a r h.1

-- the last end of a line stands at one place
last_end : (a b r s : List ℕ) → IsUnbroken r → IsUnbroken s → a ++ 10 ∷ r ≡ b ++ 10 ∷ s
    → (a ≡ b) × (r ≡ s)
last_end [] [] r s hr hs e = (refl, tail-eq_of_cons-eq e)
last_end [] (c ∷ b) r s hr hs e = absurd (broken b s (subst IsUnbroken (tail-eq_of_cons-eq e) hr))
last_end (x ∷ a) [] r s hr hs e = absurd (broken a r (rw (tail-eq_of_cons-eq e) hs))
last_end (x ∷ a) (c ∷ b) r s hr hs e =
    grind (arith, (last_end a b r s hr hs (tail-eq_of_cons-eq e)), head-eq_of_cons-eq)

-- the newest line, between what stands before it and after it
newest : (line rest : List ℕ) (before : List (List ℕ))
    → joined (line ∷ before) ++ rest ≡ (joined before ++ line) ++ 10 ∷ rest
newest line rest before = simp append_assoc refl

same_lines : (lines others : List (List ℕ)) (rest other : List ℕ) → AllByRecursion IsUnbroken lines
    → AllByRecursion IsUnbroken others → IsUnbroken rest → IsUnbroken other
    → joined lines ++ rest ≡ joined others ++ other → (lines ≡ others) × (rest ≡ other)
same_lines [] [] rest other hl ho hr hs e = (refl, e)
same_lines [] (m ∷ others) rest other hl ho hr hs e =
    absurd (broken (joined others ++ m) other (subst IsUnbroken (e ∙ newest m other others) hr))
same_lines (l ∷ lines) [] rest other hl ho hr hs e =
    absurd (broken (joined lines ++ l) rest (subst IsUnbroken (sym e ∙ newest l rest lines) hs))
same_lines (l ∷ lines) (m ∷ others) rest other hl ho hr hs e =
    let ends = last_end (joined lines ++ l) (joined others ++ m) rest other hr hs (sym (newest l rest lines) ∙ e ∙ newest m other others) in
    let before = same_lines lines others l m hl.1 ho.1 hl.0 ho.0 ends.0 in (cc (before.0, before.1), ends.1)

pub split_once : (bytes : List ℕ) (lines others : List (List ℕ)) (rest other_rest : List ℕ)
    → Splits bytes lines rest → Splits bytes others other_rest
    → (lines ≡ others) × (rest ≡ other_rest)
split_once bytes lines others rest other_rest h k = same_lines lines others rest other_rest h.each k.each h.unbroken k.unbroken (sym h.whole ∙ k.whole)
