-- What is done once an operation was carried out, in words that C can read.
use Rattle.std.specs.Prelude.{ℕ, ◌^◌, if◌then◌else◌}
use Rattle.std.specs.Int.RustNames.{bit_or}
use Rattle.uring_enter.specs.declared.going_on.tried.AfterTry.{AfterTry}
use Rattle.uring_enter.specs.GoingOn.Tried.{TryDuty, LooksAfresh, Waits, AsksGoingOn, try_place, is_try_due}

-- the bit of what is due is 2 to the power of its place: so it is done by rising bits. Our own rule
abbrev pub try_bit : AfterTry → TryDuty → ℕ
try_bit d duty = if is_try_due d duty then 2 ^ try_place duty else 0

abbrev pub word_of_try : AfterTry → ℕ
word_of_try d = bit_or (bit_or (try_bit d LooksAfresh) (try_bit d Waits)) (try_bit d AsksGoingOn)
