-- The units that no write touches: each is left in one way, and a count passes over them.
use Rattle.std.proofs.Common.{◌≡◌, ◌<◌, ◌≤◌, ◌+◌, ◌-◌, ◌*◌, ℕ, zero, suc, min, max, false, Bool, List, [], ◌∷◌, ◌⊎◌, length, map, get_or, take, refl, sym, subst, ap, ◌∙◌, inl, inr, arith}
use Rattle.std.specs.Prelude.{nat_lt}
use Rattle.uring_volume.proofs.Common.{History, IsIn, Write, bytes_from, contents_of, false_from_ne_true, filter, fronts, is_on, issued, ltb-true, mul-le-mul_left, take_more, unit_contents}
use Rattle.uring_volume.specs.declared.kept.Kept.{Kept}
use Rattle.uring_volume.specs.Past.{IsPast, Past}
use Rattle.uring_volume.proofs.Fitting.{in_either}
use Rattle.uring_volume.proofs.Files.{length_joined}

pub of_take_more : {X : Type 0} (xs : List X) (i : ℕ) (k x : X) → i < length xs → x ≡ get_or xs i x
    → IsIn k (take (i + 1) xs) → IsIn k (take i xs) ⊎ (k ≡ x)
of_take_more xs i k x within is among =
    elim (in_either k (take i xs) (get_or xs i x ∷ []) (subst (λ ys. IsIn k ys) (take_more xs i x within) among)) [
      | inl old ↦ inl old
      | inr new ↦ elim new as (λ _. IsIn k (take i xs) ⊎ (k ≡ x)) [
        | inl same ↦ inr (same ∙ sym is)
        | inr none ↦ absurd none
      ]
    ]

untouched_one : (u : ℕ) (first : List ℕ) (h : History) (len i : ℕ) → filter (is_on u i) (issued h) ≡ []
    → length (unit_contents u first h len i) ≡ 1
untouched_one u first h len i none =
    subst (λ ws. length (contents_of h (u * i) ws (bytes_from first (u * i) (min u (len - u * i)))) ≡ 1) (sym none) refl

skipped_by : (u : ℕ) (first : List ℕ) (h : History) (len i n : ℕ)
    → ((j : ℕ) → i ≤ j → j < i + n → filter (is_on u j) (issued h) ≡ [])
    → length (fronts u first h len (i + n)) ≡ length (fronts u first h len i)
skipped_by u first h len i zero none =
    let same : i + 0 ≡ i = omega arith in
    ap (λ m. length (fronts u first h len m)) same
skipped_by u first h len i (suc n) none =
    let next : i + suc n ≡ suc (i + n) = omega arith in
    let more = skipped_by u first h len i n (λ j low high. none j low (omega (arith, high))) in
    let one = untouched_one u first h len (i + n) (none (i + n) (omega arith) (omega arith)) in
    ap (λ m. length (fronts u first h len m)) next
    ∙ length_joined (fronts u first h len (i + n)) (unit_contents u first h len (i + n))
    ∙ grind (arith, one, more)

-- as many files come of units up to j as up to i, if none from i on is touched
pub skipped : (u : ℕ) (first : List ℕ) (h : History) (len i j : ℕ) → i ≤ j
    → ((k : ℕ) → i ≤ k → k < j → filter (is_on u k) (issued h) ≡ [])
    → length (fronts u first h len j) ≡ length (fronts u first h len i)
skipped u first h len i j order none =
    let sum : i + (j - i) ≡ j = omega (arith, order) in
    ap (λ m. length (fronts u first h len m)) (sym sum)
    ∙ skipped_by u first h len i (j - i) (λ k low high. none k low (omega (arith, high, sum)))

on_none : (u j from at off len : ℕ) → 0 < u → from ≤ u * j → u * j + u ≤ at
    → (from < off + len → at ≤ max off from) → nat_lt (max (u * j) off) (min (u * j + u) (off + len)) ≡ false
on_none u j from at off len some low high none =
    false_from_ne_true (nat_lt (max (u * j) off) (min (u * j + u) (off + len))) (λ is.
    let less : max (u * j) off < min (u * j + u) (off + len) = ltb-true (max (u * j) off) (min (u * j + u) (off + len)) is in
    let reach : from < off + len = omega (arith, less, low) in
    omega (arith, less, low, high, some, none reach))

none_of : (p : Write → Bool) (ks : List Kept) → ((k : Kept) → IsIn k ks → p k.piece ≡ false)
    → filter p (map (λ k. k.piece) ks) ≡ []
none_of p [] out = refl
none_of p (k ∷ ks) out = grind (arith, (out k (inl refl)), (none_of p ks (λ m among. out m (inr among))))

pub none_touched : (p : Past) (u i j from at quot : ℕ) → IsPast p → 0 < u → i ≤ j → from ≡ u * i
    → j < quot → u * quot ≤ at
    → ((k : Kept) → IsIn k p.kept → from < k.piece.off + length k.piece.bytes → at ≤ max k.piece.off from)
    → filter (is_on u j) (issued p.history) ≡ []
none_touched p u i j from at quot is some order start less within none =
    let low : from ≤ u * j = omega (arith, start, mul-le-mul_left u order) in
    let next : j + 1 ≤ quot = omega (arith, less) in
    let high : u * (j + 1) ≤ at = omega (arith, mul-le-mul_left u next, within) in
    let sum : u * (j + 1) ≡ u * j + u = grind arith in
    subst (λ ws. filter (is_on u j) ws ≡ []) is.pieces
    (none_of (is_on u j) p.kept (λ k among. on_none u j from at k.piece.off (length k.piece.bytes) some low (omega (arith, high, sum)) (none k among)))
