-- What a list contains whose elements a function gives.
use Rattle.std.proofs.Common.{◌≡◌, ℕ, zero, suc, List, [], ◌∷◌, map, Some, ap, subst, refl, arith}
use Rattle.uring_litmus.proofs.Common.{AllZip, Contains, slice_get}

pub from_map : {X Y : Type 0} (f : X → Y) (xs : List X) (y : Y) → Contains (map f xs) y
    → (x : X) × Contains xs x × (f x ≡ y)
from_map f [] y (k, low, is) = absurd (omega arith)
from_map f (x ∷ xs) y (zero, low, is) = (x, (zero, omega arith, refl), is)
from_map f (x ∷ xs) y (suc k, low, is) =
    let r = from_map f xs y (k, omega arith, is) in
    (r.0, (suc r.1.0, omega arith, r.1.2), r.2)

pub to_map : {X Y : Type 0} (f : X → Y) (xs : List X) (x : X) → Contains xs x → Contains (map f xs) (f x)
to_map f [] x (k, low, is) = absurd (omega arith)
to_map f (y ∷ xs) x (zero, low, is) = (zero, omega arith, ap f is)
to_map f (y ∷ xs) x (suc k, low, is) =
    let r = to_map f xs x (k, omega arith, is) in
    (suc r.0, omega arith, r.2)

-- what is at a place is in the list
pub at_place : {X : Type 0} (xs : List X) (k : ℕ) (x : X) → slice_get xs k ≡ Some x → Contains xs x
at_place [] k x at = absurd cc
at_place (y ∷ xs) zero x at = let same : y ≡ x = cc in (zero, omega arith, same)
at_place (y ∷ xs) (suc k) x at =
    let r = at_place xs k x at in
    (suc r.0, omega arith, r.2)

-- what has a line at a place
pub zip_at : {X Y : Type 0} (R : X → Y → Type 0) (xs : List X) (ys : List Y) (k : ℕ) (y : Y) → AllZip R xs ys
    → slice_get ys k ≡ Some y → (x : X) × (slice_get xs k ≡ Some x) × R x y
zip_at R [] [] k y all at = absurd cc
zip_at R [] (z ∷ ys) k y all at = absurd all
zip_at R (x ∷ xs) [] k y all at = absurd all
zip_at R (x ∷ xs) (z ∷ ys) zero y all at = let same : z ≡ y = cc in (x, refl, subst (R x) same all.0)
zip_at R (x ∷ xs) (z ∷ ys) (suc k) y all at = zip_at R xs ys k y all.1 at
