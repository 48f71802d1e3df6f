-- A promise on what a place holds, said of what a call found there.
use Rattle.std.proofs.Common.{◌≡◌, Option, None, Some, IsSomeAnd, IfSome, MatchOption, sym, ◌∙◌, subst}

pub said_of_found : {M H X : Type 0} (held : Option M) (Fits : M → H → Type 0) (of : M → H → Option X)
    (No : Type 0) (Yes : X → Type 0) (found : Option X) (x : X)
    → IsSomeAnd held (λ m. (h : H) → Fits m h → found ≡ of m h) → found ≡ Some x → Yes x
    → IfSome held (λ m. (h : H) → Fits m h → MatchOption (of m h) No Yes)
said_of_found None Fits of No Yes found x promised is said = tt
said_of_found {M} {H} {X} (Some m) Fits of No Yes found x promised is said =
    let P : Option X → Type 0 = λ o. MatchOption o No Yes in
    λ h fits. subst P (sym is ∙ promised h fits) said

-- a place in which a call found something isn't empty
pub not_empty : {M A : Type 0} (held : Option M) (P : M → Type 0) → IsSomeAnd held P → held ≡ None → A
not_empty None P found empty = absurd found
not_empty (Some m) P found empty = cc
