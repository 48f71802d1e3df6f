use Rattle.std.proofs.Common.{◌≡◌, ℕ, Bool, true, false, ◌&&◌, ◌==◌, nat_lt, refl}
use Rattle.std.specs.Int.{bit_at}
use Rattle.std.proofs.lemmas.Nat.Bits.{bit_at-zero}
use Rattle.uring_register.proofs.rings.restrictions.Restrictions.begin.Goals as goal

and_false : (b : Bool) → (b && false) ≡ false
and_false true = refl
and_false false = refl

none : (number : ℕ) → (nat_lt number 64 && bit_at 0 number == 1) ≡ false
none number = rw (bit_at-zero number) (and_false (nat_lt number 64))

pub returns : goal.returns
returns c = record { registered = refl; codes = none; calls = none; allowed = refl; required = refl }
