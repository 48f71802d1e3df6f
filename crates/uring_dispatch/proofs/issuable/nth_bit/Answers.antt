use Rattle.std.proofs.Common.{◌≡◌, ◌+◌, ◌<◌, ◌^◌, ℕ, suc, Bool, eqb, arith, ap, sym, subst, inl, inr, ◌∙◌}
use Rattle.uring_dispatch.proofs.Common.{bit_at, bit_at-lt, cases_eq, count_below, eq-eqb, ne_eqb, one_if, shr_and_one}
use Rattle.uring_dispatch.proofs.Counting.{ones_counted}
use Rattle.uring_dispatch.proofs.issuable.nth_bit.Goals as goal

-- one bit is counted if it is set
one : (b : ℕ) → b < 2 → one_if (eqb b 1) ≡ b
one b lt =
    elim (cases_eq b 1) [
      | inl set ↦ ap one_if (eq-eqb b 1 set) ∙ sym set
      | inr other ↦ let none : b ≡ 0 = omega arith in ap one_if (ne_eqb b 1 other) ∙ sym none
    ]

-- a count goes up by one number
next : (p : ℕ → Bool) (n : ℕ) → count_below p (n + 1) ≡ count_below p n + one_if (p n)
next p n = let more : n + 1 ≡ suc n = omega arith in ap (count_below p) more

pub loop-i-preserved : goal.loop-i-preserved
loop-i-preserved c =
    let bit = shr_and_one c.args.block c.loop-i.i in
    let counted = one (bit_at c.args.block c.loop-i.i) (bit_at-lt c.args.block c.loop-i.i) in
    let enough = c.if-left-bit.false in
    let so_far : c.loop-i.left + count_below (λ i. eqb (bit_at c.args.block i) 1) c.loop-i.i ≡ c.args.k = c.loop-i.invariant in
    let more : count_below (λ i. eqb (bit_at c.args.block i) 1) (c.loop-i.i + 1) ≡ count_below (λ i. eqb (bit_at c.args.block i) 1) c.loop-i.i + one_if (eqb (bit_at c.args.block c.loop-i.i) 1) = next _ c.loop-i.i in
    omega arith

pub unreachable-requires : goal.unreachable-requires
unreachable-requires c =
    let stop : 64 ≡ c.loop-i.i = omega arith in
    let P : ℕ → Type 0 = λ s. c.args.block < 2 ^ s in
    let fits : c.args.block < 2 ^ 64 = omega arith in
    let all = ones_counted c.args.block c.loop-i.i (subst P stop fits) in
    let so_far : c.loop-i.left + count_below (λ i. eqb (bit_at c.args.block i) 1) c.loop-i.i ≡ c.args.k = c.loop-i.invariant in
    omega arith
