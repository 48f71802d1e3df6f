-- Lists that begin with others.
use Rattle.std.proofs.Common.{◌≡◌, List, [], ◌∷◌, ◌++◌, length, Some, None, refl, sym, ap, subst, ◌∙◌, append_assoc, append-nil}
use Rattle.uring_reconstruct.proofs.Common.{Begins, slice_get}

pub begins_itself : {X : Type 0} (xs : List X) → Begins xs xs
begins_itself xs = record { rest = []; is = sym (append-nil xs) }

pub begins_all : {X : Type 0} (xs ys : List X) → xs ≡ ys → Begins xs ys
begins_all xs ys is = subst (λ zs. Begins xs zs) is (begins_itself xs)

pub begins_more : {X : Type 0} (xs : List X) (x : X) → Begins xs (xs ++ x ∷ [])
begins_more xs x = record { rest = x ∷ []; is = refl }

pub begins_on : {X : Type 0} (xs ys zs : List X) → Begins xs ys → Begins ys zs → Begins xs zs
begins_on xs ys zs a b = record {
  rest = a.rest ++ b.rest;
  is = b.is ∙ ap (λ l. l ++ b.rest) a.is ∙ append_assoc xs a.rest b.rest;
}

at_end : {X : Type 0} (xs : List X) (x : X) (rest : List X) → slice_get ((xs ++ x ∷ []) ++ rest) (length xs) ≡ Some x
at_end [] x rest = refl
at_end (y ∷ xs) x rest = at_end xs x rest

-- what stands after a beginning
pub after_begun : {X : Type 0} (xs : List X) (x : X) (all : List X) → Begins (xs ++ x ∷ []) all
    → slice_get all (length xs) ≡ Some x
after_begun xs x all b = ap (λ l. slice_get l (length xs)) b.is ∙ at_end xs x b.rest

first_after : {X : Type 0} (xs rest : List X) (x : X) → slice_get (xs ++ rest) (length xs) ≡ Some x
    → Begins (xs ++ x ∷ []) (xs ++ rest)
first_after [] [] x e = absurd (let f : None ≡ Some x = e in cc)
first_after [] (y ∷ rest) x e =
    let same : y ≡ x = cc in record { rest = rest; is = ap (λ z. z ∷ rest) same }
first_after (y ∷ xs) rest x e =
    let b : Begins (xs ++ x ∷ []) (xs ++ rest) = first_after xs rest x e in
    record { rest = b.rest; is = ap (λ l. y ∷ l) b.is }

-- with it a list begins too
pub begins_next : {X : Type 0} (xs : List X) (x : X) (all : List X) → Begins xs all
    → slice_get all (length xs) ≡ Some x → Begins (xs ++ x ∷ []) all
begins_next xs x all b e =
    subst (λ l. Begins (xs ++ x ∷ []) l) (sym b.is) (first_after xs b.rest x (sym (ap (λ l. slice_get l (length xs)) b.is) ∙ e))
