use Rattle.std.proofs.Common.{◌≡◌, ℕ, ◌==◌, sym, arith, not, false, get_or}
use Rattle.std.proofs.lemmas.Bool.Decides.{nat_tests}
use Rattle.std.proofs.lemmas.List.Sums.{position_or_len_is}
use Rattle.uring_register.proofs.kernel_lists.texts.blanks_of.Goals as goal

is_passed : (byte : ℕ) → byte ≡ 32 → not (byte == 32) ≡ false
is_passed byte h = grind (arith, nat_tests)

pub returns-then-byte-ne32 : goal.returns-then-byte-ne32
returns-then-byte-ne32 c =
    sym (position_or_len_is (λ byte. not (byte == 32)) c.args.text.now c.loop-i.i 0 (omega arith)
    (λ k h. is_passed (get_or c.args.text.now k 0) (c.loop-i.invariant k h)) (λ h. grind (arith, nat_tests)))

pub returns : goal.returns
returns c =
    sym (position_or_len_is (λ byte. not (byte == 32)) c.args.text.now _ 0 (omega arith)
    (λ k h. is_passed (get_or c.args.text.now k 0) (c.loop-i.invariant k (omega arith))) (λ h. let no : ⊥ = omega arith in absurd no))
