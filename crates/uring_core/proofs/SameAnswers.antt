-- Equality of answers: what the derived `==` says of them, and that it is decided.
use Rattle.std.proofs.Common.{◌≡◌, Bool, true, false, refl, ◌⊎◌, arith}
use Rattle.uring_core.proofs.Common.{Answer, and_from, and_parts, cases_Bool, eq-eqb, eqb-true}
use Rattle.std.proofs.lemmas.Bool.Decides.{Decides-int_eq}
use lib.Pointwise.{bytes_decides}
use Rattle.uring_core.specs.declared.answer.Answer.TheVariants as answer
use Rattle.uring_core.specs.contracts.answer.AnswerPartialEq.TheImpl.{ghosts}

-- what `==` returns
abbrev pub same : Answer → Answer → Bool
same a b = ghosts.eq a b

others : (a b : Answer) → false ≡ true → a ≡ b
others a b e = cc

-- what `==` finds the same is the same
one : (a b : Answer) → same a b ≡ true → a ≡ b
one (answer.Tail x) (answer.Tail y) e = cc (eqb-true x y e)
one _ answer.Filled e = search (others) depth 1
one (answer.Head x) (answer.Head y) e = cc (eqb-true x y e)
one (answer.Call x) (answer.Call y) e = cc (eqb-true x y e)
one (answer.Entry x) (answer.Entry y) e = cc ((bytes_decides x y).0 e)
one (answer.Taken x y z) (answer.Taken x' y' z') e = grind (arith, and_parts, eqb-true)
one (answer.Ended res bytes) (answer.Ended res' bytes') e = grind (arith, and_parts, Decides-int_eq, bytes_decides)
one (answer.Moved x) (answer.Moved y) e = cc (eqb-true x y e)
one (answer.Reaped c) (answer.Reaped d) e = grind (arith, and_parts, eqb-true, Decides-int_eq, bytes_decides)
one (answer.Next x) (answer.Next y) e = cc (eqb-true x y e)
one _ _ e = search (others) depth 1

-- `==` finds each answer the same as itself
alike : (a : Answer) → same a a ≡ true
alike a = grind (arith, eq-eqb, bytes_decides, and_from, Decides-int_eq)

-- what `==` returns is whether two answers are the same
pub told_same : (a b : Answer) (r : Bool) → r ≡ same a b → (r ≡ true → a ≡ b) × (a ≡ b → r ≡ true)
told_same a b r is = grind (arith, one, alike)

-- two answers are the same, or aren't
pub decided : (a b : Answer) → (a ≡ b) ⊎ (a ≡ b → ⊥)
decided a b = grind (arith, (cases_Bool (same a b)), (told_same a b (same a b) refl))
