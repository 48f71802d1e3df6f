-- An image of larger units is one of smaller ones: of what is left of a large unit, what lies on the small one is left of that.
use Rattle.std.proofs.Common.{◌≡◌, ◌<◌, ◌≤◌, ◌+◌, ◌-◌, ◌*◌, ◌/◌, ℕ, min, max, Bool, true, false, cond, List, [], ◌∷◌, length, refl, arith}
use Rattle.uring_volume.proofs.Common.{History, IsIn, IsInOrder, SmallerUnitsAllowIt, UnitIsLeft, Write, both_ways, byte_over, div-div-eq-div-mul, filter, is_on, is_under, lt-div-mul-add, lt-ltb, ltb-true, mul-div-le, mul-le-mul_left, slice_index}
use Rattle.uring_volume.proofs.ReadBack.{on_from}

pub in_filter : (p : Write → Bool) (x : Write) (xs : List Write) → IsIn x xs → p x ≡ true
    → IsIn x (filter p xs)
in_filter p x [] among is = absurd among
in_filter p x (y ∷ ys) among is = grind (arith, (in_filter p x ys))

pub of_filter : (p : Write → Bool) (x : Write) (xs : List Write) → IsIn x (filter p xs)
    → IsIn x xs × (p x ≡ true)
of_filter p x [] among = absurd among
of_filter p x (y ∷ ys) among = grind (arith, (of_filter p x ys))

pub filter_in_order : (h : History) (p : Write → Bool) (xs : List Write) → IsInOrder h xs
    → IsInOrder h (filter p xs)
filter_in_order h p [] o = tt
filter_in_order h p (y ∷ ys) o = grind (arith, of_filter, (filter_in_order h p ys o.2))

filter_over : (p : Write → Bool) (k byte : ℕ) (xs : List Write)
    → ((w : Write) → p w ≡ false → is_under w k ≡ false)
    → byte_over byte (filter p xs) k ≡ byte_over byte xs k
filter_over p k byte [] off = refl
filter_over p k byte (y ∷ ys) off =
    grind (arith, (filter_over p k (cond (is_under y k) (slice_index y.bytes (k - y.off)) byte) ys off), cond)

on_wider : (u c i : ℕ) (w : Write) → 0 < c → is_on u i w ≡ true → is_on (u * c) (i / c) w ≡ true
on_wider u c i w positive on =
    let meets = ltb-true (max (u * i) w.off) (min (u * i + u) (w.off + length w.bytes)) on in
    let low : c * (i / c) ≤ i = mul-div-le i c in
    let high : i < i / c * c + c = lt-div-mul-add positive in
    let more : i + 1 ≤ i / c * c + c = omega arith in
    let lower : u * (c * (i / c)) ≤ u * i = mul-le-mul_left u low in
    let higher : u * (i + 1) ≤ u * (i / c * c + c) = mul-le-mul_left u more in
    lt-ltb (max (u * c * (i / c)) w.off) (min (u * c * (i / c) + u * c) (w.off + length w.bytes)) (omega arith)

unit_from : (u c : ℕ) (first : List ℕ) (h : History) (now : List ℕ) (i : ℕ) → 0 < u → 0 < c
    → UnitIsLeft (u * c) first h now (i / c) → UnitIsLeft u first h now i
unit_from u c first h now i positive some large = record {
  order = filter (is_on u i) large.order;
  left = grind (arith, of_filter, in_filter, on_wider, filter_in_order);
  bytes = grind (arith, div-div-eq-div-mul, filter_over, both_ways, on_from);
}

pub smaller_units : SmallerUnitsAllowIt
smaller_units u c first h now positive some image = record {
  units = λ i. unit_from u c first h now i positive some (image.units (i / c));
  len = image.len;
}
