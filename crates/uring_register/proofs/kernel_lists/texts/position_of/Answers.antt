use Rattle.std.proofs.Common.{◌≡◌, ℕ, ◌==◌, sym, arith, false, get_or}
use Rattle.std.proofs.lemmas.Bool.Decides.{nat_tests}
use Rattle.std.proofs.lemmas.List.Sums.{position_or_len_is}
use Rattle.uring_register.proofs.kernel_lists.texts.position_of.Goals as goal

differs : (a b : ℕ) → (a ≡ b → ⊥) → (a == b) ≡ false
differs a b h = grind (arith, nat_tests)

pub returns-then-other-byte : goal.returns-then-other-byte
returns-then-other-byte c =
    sym (position_or_len_is (λ other. other == c.args.byte) c.args.bytes.now c.loop-i.i 0 (omega arith)
    (λ k h. differs (get_or c.args.bytes.now k 0) c.args.byte (c.loop-i.invariant k h)) (λ h. grind (arith, nat_tests)))

pub returns : goal.returns
returns c =
    sym (position_or_len_is (λ other. other == c.args.byte) c.args.bytes.now _ 0 (omega arith)
    (λ k h. differs (get_or c.args.bytes.now k 0) c.args.byte (c.loop-i.invariant k (omega arith))) (λ h. let no : ⊥ = omega arith in absurd no))
