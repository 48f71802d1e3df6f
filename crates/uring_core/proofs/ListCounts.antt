-- What passes a test in a list that grows.
use Rattle.std.proofs.Common.{◌&&◌, ◌≡◌, ◌≤◌, List, [], ◌∷◌, ◌++◌, Bool, true, false, count_by, cond, refl, sym, ◌∙◌, arith, ◌⊎◌}
use Rattle.uring_core.proofs.Common.{list_any, list_any_push, or_cases, or_left, sum_by-cons, sum_by_push}
use Rattle.std.proofs.lemmas.List.Folds.{list_any-append}

-- what passes stays, and what passes newly is the new element
pub any_kept : {X : Type 0} (p : X → Bool) (xs ys : List X) → list_any p xs ≡ true
    → list_any p (xs ++ ys) ≡ true
any_kept p xs ys e = list_any-append p xs ys ∙ or_left _ _ e

pub any_new : {X : Type 0} (p : X → Bool) (xs : List X) (x : X) → list_any p (xs ++ x ∷ []) ≡ true
    → (list_any p xs ≡ true) ⊎ (p x ≡ true)
any_new p xs x e = or_cases _ _ (sym (list_any_push p xs x) ∙ e)

-- a count of what passes
pub count_none : {X : Type 0} (p : X → Bool) (xs : List X) → list_any p xs ≡ false
    → count_by p xs ≡ 0
count_none p [] e = refl
count_none p (x ∷ xs) e = grind (arith, sum_by-cons, (count_none p xs))

pub count_some : {X : Type 0} (p : X → Bool) (xs : List X) → list_any p xs ≡ true
    → 1 ≤ count_by p xs
count_some p [] e = absurd (let f : false ≡ true = e in cc)
count_some p (x ∷ xs) e =
    grind (arith, (sum_by-cons (λ y. cond (p y) 1 0) x xs), (or_cases (p x) (list_any p xs) e), (count_some p xs))

-- at most once, also with one more that wasn't there
pub count_once_more : {X : Type 0} (p : X → Bool) (xs : List X) (x : X) → count_by p xs ≤ 1
    → (p x ≡ true → list_any p xs ≡ false) → count_by p (xs ++ x ∷ []) ≤ 1
count_once_more p xs x once absent = grind (arith, sum_by_push, count_none)

-- a stricter test passes no more
pub any_looser : {X : Type 0} (p q : X → Bool) (xs : List X) → list_any (λ x. p x && q x) xs ≡ true
    → list_any p xs ≡ true
any_looser p q [] e = e
any_looser p q (x ∷ xs) e = grind (arith, (any_looser p q xs))
