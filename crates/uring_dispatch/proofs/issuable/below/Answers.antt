use Rattle.std.proofs.Common.{◌≡◌, ◌<◌, ◌*◌, ◌-◌, ◌%◌, ◌^◌, eqb, ap, sym, ◌∙◌, arith, inl, inr}
use Rattle.uring_dispatch.proofs.Common.{bit_at, bit_at_ones, bit_at_ones_above, cases_lt, eq-eqb, le-ltb, lt-ltb}
use Rattle.std.proofs.Math.Pow.{pow-lt}
use Rattle.uring_dispatch.proofs.issuable.below.Goals as goal

pub returns-then-place-limit : goal.returns-then-place-limit
returns-then-place-limit c = λ i lt.
    let before = c.if-place-limit.true in
    eq-eqb _ 1 (bit_at_ones 64 i lt) ∙ sym (lt-ltb _ c.args.limit (omega arith))

pub returns-else-place-limit : goal.returns-else-place-limit
returns-else-place-limit c = λ i lt.
    let power : 2 ^ (c.args.limit % 64) < 2 ^ 64 = pow-lt {i = c.args.limit % 64} {j = 64} (omega arith) in
    let mask : 1 * 2 ^ (c.args.limit % 64) % 2 ^ 64 - 1 ≡ 2 ^ (c.args.limit % 64) - 1 = omega arith in
    ap (λ m. eqb (bit_at m i) 1) mask
    ∙ elim (cases_lt i (c.args.limit % 64)) [
      | inl low ↦ eq-eqb _ 1 (bit_at_ones _ i low) ∙ sym (lt-ltb _ c.args.limit (omega arith))
      | inr high ↦ ap (λ b. eqb b 1) (bit_at_ones_above _ i high) ∙ sym (le-ltb _ c.args.limit (omega arith))
    ]
