-- What the end of a request makes of others, in words that C can read.
use Rattle.std.specs.Prelude.{ℕ, ◌^◌, if◌then◌else◌}
use Rattle.std.specs.Int.RustNames.{bit_or}
use Rattle.uring_enter.specs.declared.going_on.following.AfterEnd.{AfterEnd}
use Rattle.uring_enter.specs.GoingOn.Following.{EndDuty, KeepsCompletion, Counts, StopsTimeout, LooksAtCounts, Unwatches, ForgetsDescriptor, LooksAfter, LetsStart, EndsDrain, Leaves, HasEnds, end_place, is_end_due}

-- the bit of what is due is 2 to the power of its place: so it is done by rising bits. Our own rule
abbrev pub end_bit : AfterEnd → EndDuty → ℕ
end_bit d duty = if is_end_due d duty then 2 ^ end_place duty else 0

abbrev pub word_of_end : AfterEnd → ℕ
word_of_end d =
    bit_or (bit_or (bit_or (bit_or (bit_or (bit_or (bit_or (bit_or (bit_or (bit_or
    (end_bit d KeepsCompletion) (end_bit d Counts)) (end_bit d StopsTimeout)) (end_bit d LooksAtCounts)) (end_bit d Unwatches))
    (end_bit d ForgetsDescriptor)) (end_bit d LooksAfter)) (end_bit d LetsStart)) (end_bit d EndsDrain))
    (end_bit d Leaves)) (end_bit d HasEnds)
