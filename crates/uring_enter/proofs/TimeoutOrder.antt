-- Who ends first.
use Rattle.std.proofs.Common.{◌≡◌, ℕ, Bool, true, false, List, [], ◌∷◌, ◌++◌, ◌+◌, ◌<◌, ◌≤◌, length, get_or, take, Option, Some, None, if◌then◌else◌, inl, inr, refl, subst, arith}
use Rattle.uring_enter.proofs.Common.{Contains-append_left, Contains-push, Contains-push_cases, IsNext, IsNextOf, Timeout, ends_before, nearer, take_more}

after_is_not : (x y : Timeout) → y.expiry ≡ x.expiry → y.number ≤ x.number → ends_before x y ≡ false
after_is_not x y same below = grind arith

pub before_chain : (x y z : Timeout)
    → ends_before x y ≡ false → ends_before y z ≡ false → ends_before x z ≡ false
before_chain x y z one two = grind arith

pub before_one_way : (x y : Timeout) → ends_before x y ≡ true → ends_before y x ≡ false
before_one_way x y is = grind arith

pub before_itself : (x : Timeout) → ends_before x x ≡ false
before_itself x = after_is_not x x refl (omega arith)

pub next_keeps : (xs : List Timeout) (x b : Timeout)
    → IsNext xs b → ends_before x b ≡ false → IsNext (xs ++ x ∷ []) b
next_keeps xs x b is after = (
  Contains-append_left xs (x ∷ []) b is.0,
  λ u among. elim (Contains-push_cases xs x u among) [
    | inl old ↦ is.1 u old
    | inr same ↦ let P : Timeout → Type 0 = λ v. ends_before v b ≡ false in subst P same after
  ],
)

pub next_takes : (xs : List Timeout) (x b : Timeout)
    → IsNext xs b → ends_before x b ≡ true → IsNext (xs ++ x ∷ []) x
next_takes xs x b is sooner = (
  Contains-push xs x,
  λ u among. elim (Contains-push_cases xs x u among) [
    | inl old ↦ before_chain u b x (is.1 u old) (before_one_way x b sooner)
    | inr same ↦ let P : Timeout → Type 0 = λ v. ends_before v x ≡ false in subst P same (before_itself x)
  ],
)

nearer_of : (xs : List Timeout) (x b : Timeout) (sooner : Bool) → ends_before x b ≡ sooner
    → IsNext xs b → IsNext (xs ++ x ∷ []) (if sooner then x else b)
nearer_of xs x b true is next = next_takes xs x b next is
nearer_of xs x b false is next = next_keeps xs x b next is

next_push : (xs : List Timeout) (x : Timeout) (next : Option Timeout)
    → IsNextOf xs next → IsNext (xs ++ x ∷ []) (nearer x next)
next_push xs x None none = grind arith
next_push xs x (Some b) next = nearer_of xs x b (ends_before x b) refl next

pub next_more : (rows : List Timeout) (i : ℕ) (x : Timeout) (next : Option Timeout)
    → i < length rows → x ≡ get_or rows i x → IsNextOf (take i rows) next
    → IsNextOf (take (i + 1) rows) (Some (nearer x next))
next_more rows i x next below at is =
    grind (arith, (nearer x next), (take_more rows i x below), (next_push (take i rows) x next is))
