-- Rows of timeouts.
use Rattle.std.proofs.Common.{◌≡◌, ℕ, ◌+◌, ◌-◌, ◌<◌, ◌≤◌, true, false, List, [], ◌∷◌, ◌++◌, length, get_or, take, drop, inl, inr, sym, ap, subst, ◌∙◌, arith}
use Rattle.uring_enter.proofs.Common.{Contains, Contains-push_cases, HasNone, IsFirstReached, NoneIsReached, Timeout, append_assoc, eq-eqb, is_other, is_reached_by, ne_eqb, not_from_false, not_from_true, take_more}
use Rattle.std.proofs.Math.Seq.{take-add}

pub none_more : (rows : List Timeout) (i : ℕ) (d : Timeout) (number : ℕ) → i < length rows
    → HasNone number (take i rows) → ((get_or rows i d).number ≡ number → ⊥) → HasNone number (take (i + 1) rows)
none_more rows i d number below none other t among is =
    let P : List Timeout → Type 0 = λ l. Contains l t in
    elim (Contains-push_cases (take i rows) (get_or rows i d) t (subst P (take_more rows i d below) among)) [
      | inl old ↦ none t old is
      | inr same ↦ other (ap (λ (v : Timeout). v.number) same ∙ is)
    ]

pub other_from : (number : ℕ) (t : Timeout) → (t.number ≡ number → ⊥) → is_other number t ≡ true
other_from number t apart = not_from_false _ (ne_eqb _ _ apart)

pub no_other_from : (number : ℕ) (t : Timeout) → t.number ≡ number → is_other number t ≡ false
no_other_from number t same = not_from_true _ (eq-eqb _ _ same)

-- the first so many rows, about the one at a place
split_at : (rows : List Timeout) (count i : ℕ) (t : Timeout) → i < count → count ≤ length rows → t ≡ get_or rows i t
    → take count rows ≡ take i rows ++ t ∷ take (count - (i + 1)) (drop (i + 1) rows)
split_at rows count i t below within at = grind (arith, (take-add (i + 1) (count - (i + 1)) rows), take_more, append_assoc)

-- the first one of the first so many rows that is found to be reached
pub first_reached : (rows : List Timeout) (count i posted : ℕ) (t : Timeout) → i < count → count ≤ length rows → t ≡ get_or rows i t
    → NoneIsReached (take i rows) posted → is_reached_by posted t ≡ true → IsFirstReached (take count rows) posted t
first_reached rows count i posted t below within at none is = grind (arith, (split_at rows count i t below within at))

pub none_reached_more : (rows : List Timeout) (i posted : ℕ) (t : Timeout) → i < length rows → t ≡ get_or rows i t
    → NoneIsReached (take i rows) posted → is_reached_by posted t ≡ false → NoneIsReached (take (i + 1) rows) posted
none_reached_more rows i posted t below at none is u among =
    let P : List Timeout → Type 0 = λ l. Contains l u in
    let more : take (i + 1) rows ≡ take i rows ++ t ∷ [] = take_more rows i t below ∙ ap (λ v. take i rows ++ v ∷ []) (sym at) in
    elim (Contains-push_cases (take i rows) t u (subst P more among)) [
      | inl old ↦ none u old
      | inr same ↦ sym (ap (λ v. is_reached_by posted v) same) ∙ is
    ]
