use Rattle.std.proofs.Common.{◌≡◌, ◌<◌, ℕ, zero, suc, min, max, eqb, Bool, ◌||◌, ◌&&◌, ap, sym, ◌∙◌, refl, arith}
use Rattle.std.proofs.lemmas.Nat.Bits.{bit_at_and, bit_at_or, bit_at-lt}
use Rattle.uring_dispatch.proofs.issuable.block.Goals as goal

or_bit : (a b : ℕ) → a < 2 → b < 2 → eqb (max a b) 1 ≡ (eqb a 1 || eqb b 1)
or_bit zero zero x y = refl
or_bit zero (suc zero) x y = refl
or_bit (suc zero) zero x y = refl
or_bit (suc zero) (suc zero) x y = refl
or_bit (suc (suc a)) b x y = absurd (omega arith)
or_bit a (suc (suc b)) x y = absurd (omega arith)

and_bit : (a b : ℕ) → a < 2 → b < 2 → eqb (min a b) 1 ≡ (eqb a 1 && eqb b 1)
and_bit zero zero x y = refl
and_bit zero (suc zero) x y = refl
and_bit (suc zero) zero x y = refl
and_bit (suc zero) (suc zero) x y = refl
and_bit (suc (suc a)) b x y = absurd (omega arith)
and_bit a (suc (suc b)) x y = absurd (omega arith)

joined : (bit a b c : ℕ) (doomed head below : Bool) → bit ≡ max a (min b c) → a < 2 → b < 2 → c < 2
    → doomed ≡ eqb a 1 → head ≡ eqb b 1 → eqb c 1 ≡ below
    → eqb bit 1 ≡ (doomed || (head && below))
joined bit a b c doomed head below is x y z d h l =
    ap (λ k. eqb k 1) is ∙ or_bit a (min b c) x (omega arith)
    ∙ ap (λ k. eqb a 1 || k) (and_bit b c y z ∙ ap (λ k. eqb b 1 && k) l ∙ ap (λ k. k && below) (sym h))
    ∙ ap (λ k. k || (head && below)) (sym d)

pub returns : goal.returns
returns c = λ i lt.
    joined _ _ _ _ _ _ _ (bit_at_or c.block.result _ i ∙ ap (max _) (bit_at_and c.block-2.result c.below.result i)) (bit_at-lt c.block.result i) (bit_at-lt c.block-2.result i) (bit_at-lt c.below.result i)
    (c.block.ensures i lt) (c.block-2.ensures i lt) (c.below.ensures i lt)
