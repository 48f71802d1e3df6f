-- Lists: what stands in one that is mapped or spread out, and at the end of one.
use Rattle.std.proofs.Common.{◌≡◌, ℕ, zero, suc, ◌+◌, ◌<◌, List, [], ◌∷◌, ◌++◌, length, take, get_or, map, Some, refl, sym, ap, ◌∙◌, arith, inl, inr, append_assoc, append-nil}
use Rattle.uring_crash_outcomes.proofs.Common.{Contains, IsIn, length-take, map-append, slice_get, take_all, take_more}
use Rattle.std.specs.List.{flat_map}
use Rattle.std.proofs.lemmas.Grind.{flat_map-append}
use Rattle.std.proofs.lemmas.List.Elements.{Contains-append_left, Contains-append_right, Contains-append_cases, Contains-push_cases}

pub none_there : {X : Type 0} (x : X) → Contains [] x → ⊥
none_there x there = let low : there.0 < 0 = there.1 in omega (arith, low)

-- the two words for what stands in a list
pub contained : {X : Type 0} (xs : List X) (x : X) → IsIn x xs → Contains xs x
contained [] x is = absurd is
contained (y ∷ ys) x (inl same) = (0, omega arith, sym same)
contained (y ∷ ys) x (inr there) = Contains-append_right (y ∷ []) ys x (contained ys x there)

pub is_in : {X : Type 0} (xs : List X) (x : X) → Contains xs x → IsIn x xs
is_in [] x there = absurd (none_there x there)
is_in (y ∷ ys) x there =
    elim (Contains-append_cases (y ∷ []) ys x there) [
      | inl first ↦ elim (Contains-push_cases [] y x first) [
        | inl none ↦ absurd (none_there x none)
        | inr same ↦ inl (sym same)
      ]
      | inr later ↦ inr (is_in ys x later)
    ]

-- what a map has
pub in_map : {X Y : Type 0} (f : X → Y) (xs : List X) (x : X) → IsIn x xs → IsIn (f x) (map f xs)
in_map f [] x is = is
in_map f (y ∷ ys) x (inl same) = inl (ap f same)
in_map f (y ∷ ys) x (inr there) = inr (in_map f ys x there)

pub record IsMapped {X Y : Type 0} (f : X → Y) (xs : List X) (y : Y) : Type 0 where
  pub from : X
  pub there : IsIn from xs
  pub is : y ≡ f from

pub from_map : {X Y : Type 0} (f : X → Y) (xs : List X) (y : Y) → IsIn y (map f xs) → IsMapped f xs y
from_map f [] y is = absurd is
from_map f (x ∷ xs) y (inl same) = record { from = x; there = inl refl; is = same }
from_map f (x ∷ xs) y (inr there) = grind (arith, (from_map f xs y there))

-- what one has that is spread out
pub in_spread : {X Y : Type 0} (f : X → List Y) (xs : List X) (x : X) (y : Y) → IsIn x xs → Contains (f x) y
    → Contains (flat_map f xs) y
in_spread f [] x y is there = absurd is
in_spread f (z ∷ zs) x y (inl same) there = grind (arith, Contains-append_left)
in_spread f (z ∷ zs) x y (inr later) there = grind (arith, Contains-append_right, (in_spread f zs x y later there))

pub record IsSpread {X Y : Type 0} (f : X → List Y) (xs : List X) (y : Y) : Type 0 where
  pub from : X
  pub there : IsIn from xs
  pub has : Contains (f from) y

pub from_spread : {X Y : Type 0} (f : X → List Y) (xs : List X) (y : Y) → Contains (flat_map f xs) y → IsSpread f xs y
from_spread f [] y there = absurd (none_there y there)
from_spread f (x ∷ xs) y there =
    elim (Contains-append_cases (f x) (flat_map f xs) y there) [
      | inl here ↦ record { from = x; there = inl refl; has = here }
      | inr later ↦ grind (arith, (from_spread f xs y later))
    ]

-- what stands at a place, with one more at the end
pub got_before : {X : Type 0} (xs ys : List X) (k : ℕ) → k < length xs → slice_get (xs ++ ys) k ≡ slice_get xs k
got_before [] ys k low = absurd (omega (arith, low))
got_before (x ∷ xs) ys zero low = refl
got_before (x ∷ xs) ys (suc k) low = got_before xs ys k (omega (arith, low))

pub got_last : {X : Type 0} (xs : List X) (y : X) → slice_get (xs ++ y ∷ []) (length xs) ≡ Some y
got_last [] y = refl
got_last (x ∷ xs) y = got_last xs y

-- it is at a place before, or it is the one at the end
pub data IsGot {X : Type 0} (xs : List X) (y : X) (k : ℕ) (z : X) : Type 0 where
  Before : k < length xs → slice_get xs k ≡ Some z → IsGot xs y k z
  Last : k ≡ length xs → z ≡ y → IsGot xs y k z

got_later : {X : Type 0} (x : X) (xs : List X) (y : X) (k : ℕ) (z : X) → IsGot xs y k z → IsGot (x ∷ xs) y (suc k) z
got_later x xs y k z h = grind arith

pub got : {X : Type 0} (xs : List X) (y : X) (k : ℕ) (z : X) → slice_get (xs ++ y ∷ []) k ≡ Some z → IsGot xs y k z
got [] y zero z is = Last refl cc
got [] y (suc k) z is = absurd cc
got (x ∷ xs) y zero z is = Before (omega arith) is
got (x ∷ xs) y (suc k) z is = got_later x xs y k z (got xs y k z is)

-- a list with one more than so many has a last one
pub record HasLast {X : Type 0} (xs : List X) (n : ℕ) : Type 0 where
  pub before : List X
  pub last : X
  pub is : xs ≡ before ++ last ∷ []
  pub many : length before ≡ n

pub has_last : {X : Type 0} (xs : List X) (n : ℕ) (d : X) → length xs ≡ n + 1 → HasLast xs n
has_last xs n d many = record {
  before = take n xs;
  last = get_or xs n d;
  is = sym (take_all (n + 1) xs (omega (arith, many))) ∙ take_more xs n d (omega (arith, many));
  many = let is : length (take n xs) ≡ n = omega (arith, many, length-take n xs) in is;
}

-- a map, one element further
pub map_more : {X Y : Type 0} (f : X → Y) (xs : List X) (k : ℕ) (x : X) (old new mid : List Y)
    → k < length xs → x ≡ get_or xs k x → mid ≡ old ++ map f (take k xs) → new ≡ mid ++ f x ∷ []
    → new ≡ old ++ map f (take (k + 1) xs)
map_more f xs k x old new mid low is so more =
    let taken : take (k + 1) xs ≡ take k xs ++ x ∷ [] = take_more xs k x low ∙ ap (λ y. take k xs ++ y ∷ []) (sym is) in
    more ∙ ap (λ ys. ys ++ f x ∷ []) so ∙ append_assoc old (map f (take k xs)) (f x ∷ [])
    ∙ ap (λ ys. old ++ ys) (sym (ap (map f) taken ∙ map-append f (take k xs) (x ∷ [])))

pub spread_more : {X Y : Type 0} (f : X → List Y) (xs : List X) (k : ℕ) (x : X) (new mid : List Y)
    → k < length xs → x ≡ get_or xs k x → mid ≡ flat_map f (take k xs) → new ≡ mid ++ f x
    → new ≡ flat_map f (take (k + 1) xs)
spread_more f xs k x new mid low is so more =
    grind (arith, (take_more xs k x low), (flat_map-append f (take k xs) (x ∷ [])), (append-nil (f x)))

pub map_map : {X Y Z : Type 0} (f : Y → Z) (h : X → Y) (xs : List X) → map f (map h xs) ≡ map (λ x. f (h x)) xs
map_map f h [] = refl
map_map f h (x ∷ xs) = ap (λ ys. f (h x) ∷ ys) (map_map f h xs)
