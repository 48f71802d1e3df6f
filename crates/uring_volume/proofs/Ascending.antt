-- The writes that are kept ascend by their numbers, so that one is found by halves.
use Rattle.std.proofs.Common.{◌≡◌, ℕ, ◌==◌, ◌<◌, ◌≤◌, zero, suc, Bool, false, List, [], ◌∷◌, ◌++◌, ◌⊎◌, length, map, take, drop, get_or, refl, sym, subst, ap, ◌∙◌, inl, inr, arith}
use Rattle.uring_volume.proofs.Common.{cond_both, take-append-drop, named, IsIn, eqb-true, false_from_ne_true, filter, list_any}
use Rattle.uring_volume.specs.declared.kept.Kept.{Kept}
use Rattle.uring_volume.specs.Past.{IsAscending}
use Rattle.uring_volume.proofs.Puts.{any_is}
use Rattle.uring_volume.proofs.Fitting.{in_either}
use Rattle.uring_volume.proofs.KeptLists.{in_default, of_filter, of_map}

pub asc_push : (ks : List Kept) (k : Kept) → IsAscending ks → ((m : Kept) → IsIn m ks → m.piece.number < k.piece.number)
    → IsAscending (ks ++ k ∷ [])
asc_push [] k a below = (λ m none. absurd none, tt)
asc_push (x ∷ ks) k a below = (
  λ m among. elim (in_either m ks (k ∷ []) among) [
    | inl old ↦ a.0 m old
    | inr new ↦ elim new [
      | inl same ↦ subst (λ (y : Kept). x.piece.number < y.piece.number) (sym same) (below x (inl refl))
      | inr none ↦ absurd none
    ]
  ],
  asc_push ks k a.1 (λ m among. below m (inr among)),
)

pub asc_map : (f : Kept → Kept) (ks : List Kept) → ((k : Kept) → (f k).piece.number ≡ k.piece.number) → IsAscending ks
    → IsAscending (map f ks)
asc_map f [] same a = tt
asc_map f (x ∷ ks) same a = (
  λ m among. let found = of_map f m ks among in let less = a.0 found.0 found.1 in let e : m.piece.number ≡ found.0.piece.number = ap (λ (y : Kept). y.piece.number) found.2 ∙ same found.0 in omega (arith, less, e, same x),
  asc_map f ks same a.1,
)

pub asc_filter : (p : Kept → Bool) (ks : List Kept) → IsAscending ks → IsAscending (filter p ks)
asc_filter p [] a = tt
asc_filter p (x ∷ ks) a =
    cond_both (p x) (x ∷ filter p ks) (filter p ks) (λ g. IsAscending g)
    (λ _. (λ m among. a.0 m (of_filter p m ks among), asc_filter p ks a.1))
    (λ _. asc_filter p ks a.1)

asc_of_drop : (ks : List Kept) (i : ℕ) → IsAscending ks → IsAscending (drop i ks)
asc_of_drop [] zero a = tt
asc_of_drop [] (suc i) a = tt
asc_of_drop (x ∷ ks) zero a = a
asc_of_drop (x ∷ ks) (suc i) a = asc_of_drop ks i a.1

after : (ks : List Kept) (n : ℕ) → IsAscending ks → ((k : Kept) → IsIn k ks → n ≤ k.piece.number)
    → ((k : Kept) → IsIn k (take 1 ks) → k.piece.number ≡ n → ⊥) → (k : Kept) → IsIn k ks → k.piece.number ≡ n → ⊥
after [] n a above other k among named = among
after (x ∷ ks) n a above other k (inl same) named = other k (inl same) named
after (x ∷ ks) n a above other k (inr more) named =
    let low = above x (inl refl) in let less = a.0 k more in
    other x (inl refl) (omega (arith, low, less, named))

-- those up to one that is below n are, and those from one on that isn't aren't
pub asc_take : (ks : List Kept) (i n : ℕ) (x k : Kept) → IsAscending ks → i < length ks → x ≡ get_or ks i x
    → x.piece.number < n → IsIn k (take (suc i) ks) → k.piece.number < n
asc_take [] i n x k a within is less among = absurd (omega (arith, within))
asc_take (y ∷ ks) zero n x k a within is less (inl same) = let e : k.piece.number ≡ x.piece.number = ap (λ (z : Kept). z.piece.number) (same ∙ sym is) in omega (arith, e, less)
asc_take (y ∷ ks) zero n x k a within is less (inr none) = absurd none
asc_take (y ∷ ks) (suc i) n x k a within is less (inl same) =
    let there = a.0 x (subst (λ (z : Kept). IsIn z ks) (sym is) (in_default ks i x (omega (arith, within)))) in
    let e : k.piece.number ≡ y.piece.number = ap (λ (z : Kept). z.piece.number) same in
    omega (arith, there, e, less)
asc_take (y ∷ ks) (suc i) n x k a within is less (inr more) = asc_take ks i n x k a.1 (omega (arith, within)) is less more

pub asc_drop : (ks : List Kept) (i n : ℕ) (x k : Kept) → IsAscending ks → i < length ks → x ≡ get_or ks i x
    → n ≤ x.piece.number → IsIn k (drop i ks) → n ≤ k.piece.number
asc_drop [] i n x k a within is low among = absurd (omega (arith, within))
asc_drop (y ∷ ks) zero n x k a within is low (inl same) = let e : k.piece.number ≡ x.piece.number = ap (λ (z : Kept). z.piece.number) (same ∙ sym is) in omega (arith, e, low)
asc_drop (y ∷ ks) zero n x k a within is low (inr more) =
    let there = a.0 k more in let e : x.piece.number ≡ y.piece.number = ap (λ (z : Kept). z.piece.number) is in omega (arith, there, e, low)
asc_drop (y ∷ ks) (suc i) n x k a within is low among = asc_drop ks i n x k a.1 (omega (arith, within)) is low among

in_take_drop : {X : Type 0} (xs : List X) (i : ℕ) (x : X) → IsIn x xs → IsIn x (take i xs) ⊎ IsIn x (drop i xs)
in_take_drop xs i x among = in_either x (take i xs) (drop i xs) (subst (λ ys. IsIn x ys) (sym (take-append-drop i xs)) among)

-- none of these has the number: it would stand at i, and what stands there has another
pub not_found : (ks : List Kept) (i n : ℕ) → IsAscending ks
    → ((k : Kept) → IsIn k (take i ks) → k.piece.number < n)
    → ((k : Kept) → IsIn k (drop i ks) → n ≤ k.piece.number)
    → ((k : Kept) → IsIn k (take 1 (drop i ks)) → k.piece.number ≡ n → ⊥)
    → list_any (λ k. k.piece.number == n) ks ≡ false
not_found ks i n a below above other =
    false_from_ne_true (list_any (λ (k : Kept). k.piece.number == n) ks) (λ any.
    let found = any_is (λ (k : Kept). k.piece.number == n) ks any in
    let named : found.0.piece.number ≡ n = eqb-true found.0.piece.number n found.2 in
    elim (in_take_drop ks i found.0 found.1) [
      | inl front ↦ let less = below found.0 front in omega (arith, less, named)
      | inr back ↦ after (drop i ks) n (asc_of_drop ks i a) above other found.0 back named
    ])

-- what stands first after i is what stands at i
at_first : (ks : List Kept) (i : ℕ) (k x : Kept) → i < length ks → x ≡ get_or ks i x → IsIn k (take 1 (drop i ks)) → k ≡ x
at_first [] i k x within is among = absurd (omega (arith, within))
at_first (y ∷ ks) zero k x within is (inl same) = same ∙ sym is
at_first (y ∷ ks) zero k x within is (inr none) = absurd none
at_first (y ∷ ks) (suc i) k x within is among = at_first ks i k x (omega (arith, within)) is among

pub same_at : (ks : List Kept) (i : ℕ) (x y : Kept) → i < length ks → x ≡ get_or ks i x → y ≡ get_or ks i y → x ≡ y
same_at [] i x y within is other = absurd (omega (arith, within))
same_at (z ∷ ks) zero x y within is other = is ∙ sym other
same_at (z ∷ ks) (suc i) x y within is other = same_at ks i x y (omega (arith, within)) is other

none_first : (ks : List Kept) (i : ℕ) (k : Kept) → length ks ≤ i → IsIn k (take 1 (drop i ks)) → ⊥
none_first [] zero k past among = among
none_first [] (suc i) k past among = among
none_first (y ∷ ks) zero k past among = omega (arith, past)
none_first (y ∷ ks) (suc i) k past among = none_first ks i k (omega (arith, past)) among

pub not_there : (ks : List Kept) (i n : ℕ) (x : Kept) → IsAscending ks
    → ((k : Kept) → IsIn k (take i ks) → k.piece.number < n)
    → ((k : Kept) → IsIn k (drop i ks) → n ≤ k.piece.number)
    → i < length ks → x ≡ get_or ks i x → (x.piece.number ≡ n → ⊥)
    → list_any (λ k. k.piece.number == n) ks ≡ false
not_there ks i n x a below above within is other =
    not_found ks i n a below above (λ k among named. other (ap (λ (z : Kept). z.piece.number) (sym (at_first ks i k x within is among)) ∙ named))

pub not_past : (ks : List Kept) (i n : ℕ) → IsAscending ks
    → ((k : Kept) → IsIn k (take i ks) → k.piece.number < n)
    → ((k : Kept) → IsIn k (drop i ks) → n ≤ k.piece.number)
    → length ks ≤ i → list_any (λ k. k.piece.number == n) ks ≡ false
not_past ks i n a below above past = not_found ks i n a below above (λ k among named. none_first ks i k past among)
