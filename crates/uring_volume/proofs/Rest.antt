-- A file at rest has one image: of the writes of a byte one comes after all others, whatever the list.
use Rattle.std.proofs.Common.{◌≡◌, ◌<◌, ◌≤◌, ◌/◌, ℕ, max, Bool, true, false, List, [], ◌∷◌, ◌⊎◌, length, refl, sym, ◌∙◌, inl, inr, arith}
use Rattle.uring_volume.proofs.Common.{History, IsAtRest, IsIn, IsInOrder, MayBeLeft, RestHasOneImage, UnitIsLeft, Write, byte_over, cases_Bool, end_of, ext_get_or, is_before, is_on, is_under, length_over, slice_index}
use Rattle.uring_volume.proofs.ReadBack.{none_over, last_over, len_grows, end_within}

-- The last of these writes that writes the byte at offset k: of those that do, none comes after it.
record IsLast (h : History) (k : ℕ) (order : List Write) (w : Write) : Type 0 where
  among : IsIn w order
  under : is_under w k ≡ true
  last : (m : Write) → IsIn m order → is_under m k ≡ true
      → (m ≡ w) ⊎ (is_before h w.number m.number ≡ false)

-- none of these writes writes the byte, or one of them is the last that does
abbrev HasLast : History → ℕ → List Write → Type 0
HasLast h k order =
    ((m : Write) → IsIn m order → is_under m k ≡ false) ⊎ ((w : Write) × IsLast h k order w)

last_with : (h : History) (k : ℕ) (x : Write) (later : List Write) → IsInOrder h (x ∷ later)
    → HasLast h k later → HasLast h k (x ∷ later)
last_with h k x later o (inr more) = grind arith
last_with h k x later o (inl none) = elim (cases_Bool (is_under x k)) [
  | inl is ↦ inr (x, record { among = inl refl; under = is; last = grind arith })
  | inr out ↦ inl (grind arith)
]

find_last : (h : History) (k : ℕ) (order : List Write) → IsInOrder h order → HasLast h k order
find_last h k [] o = inl (λ m among. absurd among)
find_last h k (x ∷ later) o = last_with h k x later o (find_last h k later o.2)

-- Two lists that may be left of the same place, at rest.

-- what is in one is in the other
moves : (h : History) (touches : Write → Bool) (a b : List Write) → IsAtRest h
    → MayBeLeft h touches a → MayBeLeft h touches b → (w : Write) → IsIn w a → IsIn w b
moves h touches a b rest la lb w among = grind arith

same_byte : (h : History) (touches : Write → Bool) (a b : List Write) (byte k : ℕ) → IsAtRest h
    → MayBeLeft h touches a → MayBeLeft h touches b → HasLast h k a
    → byte_over byte a k ≡ byte_over byte b k
same_byte h touches a b byte k rest la lb (inl none) = grind (arith, none_over)
same_byte h touches a b byte k rest la lb (inr found) = grind (arith, (last_over h found.0 k byte a), (last_over h found.0 k byte b), moves)

pub length_below : (len bound : ℕ) (order : List Write) → len ≤ bound
    → ((w : Write) → IsIn w order → end_of w ≤ bound) → length_over len order ≤ bound
length_below len bound [] low ends = low
length_below len bound (w ∷ later) low ends = grind (arith, (length_below (max len (end_of w)) bound later))

no_longer : (h : History) (touches : Write → Bool) (a b : List Write) (len : ℕ) → IsAtRest h
    → MayBeLeft h touches a → MayBeLeft h touches b → length_over len a ≤ length_over len b
no_longer h touches a b len rest la lb = grind (arith, length_below, len_grows, end_within, moves)

pub one_image : RestHasOneImage
one_image u first h now other positive rest image second =
    let longer = no_longer h (λ w. true) image.len.order second.len.order (length first) rest image.len.left second.len.left in
    let shorter = no_longer h (λ w. true) second.len.order image.len.order (length first) rest second.len.left image.len.left in
    let same : length now ≡ length other = omega (arith, image.len.len, second.len.len) in
    ext_get_or 0 now other same (λ k within.
    let here : UnitIsLeft u first h now (k / u) = image.units (k / u) in
    let there : UnitIsLeft u first h other (k / u) = second.units (k / u) in
    let inside : k < length other = omega arith in
    here.bytes k refl within
    ∙ same_byte h (is_on u (k / u)) here.order there.order (slice_index first k) k rest here.left there.left (find_last h k here.order here.left.in_order)
    ∙ sym (there.bytes k refl inside))
