-- How long a list is in which each thing comes once.
use Rattle.std.proofs.Common.{◌≡◌, ◌≤◌, ℕ, suc, List, [], ◌∷◌, length, refl, ap, inl, inr, arith}
use Rattle.uring_volume.proofs.Common.{IsEachOnce, IsIn, ListsAreAsLong}

-- a list without one of its elements
record IsLess (x : List ℕ) (ys : List (List ℕ)) : Type 0 where
  others : List (List ℕ)
  long : length ys ≡ suc (length others)
  within : (z : List ℕ) → IsIn z ys → (z ≡ x → ⊥) → IsIn z others

less : (x : List ℕ) (ys : List (List ℕ)) → IsIn x ys → IsLess x ys
less x [] among = absurd among
less x (y ∷ ys) (inl same) = record { others = ys; long = refl; within = grind arith }
less x (y ∷ ys) (inr more) =
    let rest = less x ys more in
    record { others = y ∷ rest.others; long = ap suc rest.long; within = grind (arith, (rest.within)) }

no_longer : (xs ys : List (List ℕ)) → IsEachOnce xs → ((x : List ℕ) → IsIn x xs → IsIn x ys)
    → length xs ≤ length ys
no_longer [] ys once within = omega arith
no_longer (x ∷ xs) ys once within =
    let rest = less x ys (within x (inl refl)) in
    grind (arith, (no_longer xs rest.others once.1), (rest.within))

pub lists_are_as_long : ListsAreAsLong
lists_are_as_long u first h some others a b = grind (arith, no_longer)
