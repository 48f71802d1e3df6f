-- Lists to which each thing is put once.
use Rattle.std.proofs.Common.{◌≡◌, ◌==◌, ℕ, Bool, true, false, ◌&&◌, List, [], ◌∷◌, ◌++◌, ◌⊎◌, refl, sym, ap, ◌∙◌, inr, arith}
use Rattle.uring_volume.proofs.Common.{IsEachOnce, IsIn, Way, Write, and_from, and_parts, both_ways, eq-eqb, eqb-true, list_any, nat_eq, pointwise, put_by, same_text, same_way, same_write}
use Rattle.uring_volume.proofs.Fitting.{in_left, in_right, in_either}

pub any_is : {X : Type 0} (p : X → Bool) (xs : List X) → list_any p xs ≡ true
    → (x : X) × IsIn x xs × (p x ≡ true)
any_is p [] is = absurd (both_ways false refl is)
any_is p (x ∷ xs) is = grind (arith, (any_is p xs))

pub is_any : {X : Type 0} (p : X → Bool) (x : X) (xs : List X) → IsIn x xs → p x ≡ true
    → list_any p xs ≡ true
is_any p x [] among is = absurd among
is_any p x (y ∷ ys) among is = grind (arith, (is_any p x ys))

-- a test that tells what is equal
pub record Tells {X : Type 0} (same : X → X → Bool) : Type 0 where
  pub equal : (x y : X) → same x y ≡ true → x ≡ y
  pub itself : (x : X) → same x x ≡ true

pub in_put_old : {X : Type 0} (same : X → X → Bool) (x y : X) (xs : List X) → IsIn x xs
    → IsIn x (put_by same xs y)
in_put_old same x y xs among = grind (arith, in_left)

pub in_put_new : {X : Type 0} (same : X → X → Bool) (y : X) (xs : List X) → Tells same
    → IsIn y (put_by same xs y)
in_put_new same y xs tells = grind (arith, any_is, in_right)

pub of_put : {X : Type 0} (same : X → X → Bool) (x y : X) (xs : List X) → IsIn x (put_by same xs y)
    → IsIn x xs ⊎ (x ≡ y)
of_put same x y xs among = grind (arith, (in_either x xs (y ∷ [])))

once_after : {X : Type 0} (y : X) (xs : List X) → IsEachOnce xs → (IsIn y xs → ⊥)
    → IsEachOnce (xs ++ y ∷ [])
once_after y [] once new = (λ none. none, tt)
once_after y (x ∷ xs) once new = (λ among. grind (arith, (in_either x xs (y ∷ []) among)), once_after y xs once.1 (λ among. new (inr among)))

pub put_once : {X : Type 0} (same : X → X → Bool) (y : X) (xs : List X) → Tells same
    → IsEachOnce xs → IsEachOnce (put_by same xs y)
put_once same y xs tells once = grind (arith, (once_after y xs once), (is_any (λ z. same z y) y xs))

-- The tests.

pub numbers_tell : Tells nat_eq
numbers_tell = record { equal = eqb-true; itself = λ n. eq-eqb n n refl }

bytes_same : (bs : List ℕ) → pointwise nat_eq bs bs ≡ true
bytes_same [] = refl
bytes_same (b ∷ bs) = and_from _ _ (eq-eqb b b refl) (bytes_same bs)

pub bytes_tell : Tells (pointwise nat_eq)
bytes_tell = record { equal = λ xs ys is. same_text xs ys (sym is); itself = bytes_same }

writes_equal : (v w : Write) → same_write v w ≡ true → v ≡ w
writes_equal v w is =
    let one = and_parts (v.number == w.number) (v.off == w.off && pointwise nat_eq v.bytes w.bytes) is in
    let two = and_parts (v.off == w.off) (pointwise nat_eq v.bytes w.bytes) one.1 in
    let number : v.number ≡ w.number = eqb-true v.number w.number one.0 in
    let off : v.off ≡ w.off = eqb-true v.off w.off two.0 in
    let bytes : v.bytes ≡ w.bytes = same_text v.bytes w.bytes (sym two.1) in
    let at_number : v ≡ record { number = w.number; off = v.off; bytes = v.bytes } = ap (λ n. record v { number = n }) number in
    let at_off : record { number = w.number; off = v.off; bytes = v.bytes } ≡ record { number = w.number; off = w.off; bytes = v.bytes } = ap (λ n. record w { off = n; bytes = v.bytes }) off in
    at_number ∙ at_off ∙ ap (λ bs. record w { bytes = bs }) bytes

write_same : (w : Write) → same_write w w ≡ true
write_same w = and_from _ _ (eq-eqb w.number w.number refl) (and_from _ _ (eq-eqb w.off w.off refl) (bytes_same w.bytes))

all_equal : (vs ws : List Write) → pointwise same_write vs ws ≡ true → vs ≡ ws
all_equal [] [] is = refl
all_equal [] (w ∷ ws) is = absurd (both_ways false refl is)
all_equal (v ∷ vs) [] is = absurd (both_ways false refl is)
all_equal (v ∷ vs) (w ∷ ws) is =
    let parts = and_parts (same_write v w) (pointwise same_write vs ws) is in
    ap (λ x. x ∷ vs) (writes_equal v w parts.0) ∙ ap (λ xs. w ∷ xs) (all_equal vs ws parts.1)

all_same : (ws : List Write) → pointwise same_write ws ws ≡ true
all_same [] = refl
all_same (w ∷ ws) = and_from _ _ (write_same w) (all_same ws)

ways_equal : (s t : Way) → same_way s t ≡ true → s ≡ t
ways_equal s t is =
    let parts = and_parts (pointwise nat_eq s.now t.now) (pointwise same_write s.rest t.rest) is in
    grind (arith, (same_text s.now t.now (sym parts.0)), (all_equal s.rest t.rest parts.1))

pub ways_tell : Tells same_way
ways_tell = record { equal = ways_equal; itself = λ s. and_from _ _ (bytes_same s.now) (all_same s.rest) }
