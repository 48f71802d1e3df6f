-- A search through a list, one after the other.
use Rattle.std.proofs.Common.{◌≡◌, ◌<◌, ◌+◌, ◌⊎◌, inl, inr, ℕ, zero, suc, List, [], ◌∷◌, length, get_or, map, take, refl, sym, ap, subst, ◌∙◌, arith}
use Rattle.uring_crash.proofs.Common.{IsIn, map-append, take_more}
use Rattle.uring_volume.proofs.Fitting.{in_either}

-- one of the first i + 1 is one of the first i, or the next one
pub more_seen : {X Y : Type 0} (f : X → Y) (xs : List X) (i : ℕ) (x : X) (y : Y)
    → i < length xs → x ≡ get_or xs i x → IsIn y (map f (take (i + 1) xs))
    → IsIn y (map f (take i xs)) ⊎ (y ≡ f x)
more_seen f xs i x y within at among =
    elim (in_either y (map f (take i xs)) (f (get_or xs i x) ∷ []) (subst (λ ys. IsIn y ys) (ap (map f) (take_more xs i x within) ∙ map-append f (take i xs) (get_or xs i x ∷ [])) among)) [
      | inl old ↦ inl old
      | inr new ↦ elim new [
        | inl same ↦ inr (same ∙ ap f (sym at))
        | inr none ↦ absurd none
      ]
    ]

at_in : {X Y : Type 0} (f : X → Y) (xs : List X) (i : ℕ) (d : X) → i < length xs
    → IsIn (f (get_or xs i d)) (map f xs)
at_in f [] i d within = absurd (omega (arith, within))
at_in f (x ∷ xs) zero d within = inl refl
at_in f (x ∷ xs) (suc i) d within = inr (at_in f xs i d (omega (arith, within)))

-- what stands at i is in the list
pub is_among : {X Y : Type 0} (f : X → Y) (xs : List X) (i : ℕ) (x : X) → i < length xs
    → x ≡ get_or xs i x → IsIn (f x) (map f xs)
is_among f xs i x within at = grind (arith, (at_in f xs i x within))
