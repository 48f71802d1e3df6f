-- What is done as a request starts, in words that C can read.
use Rattle.std.specs.Prelude.{ℕ, ◌^◌, if◌then◌else◌}
use Rattle.std.specs.Int.RustNames.{bit_or}
use Rattle.uring_operations.specs.declared.requests.starting.Starting.{Starting}
use Rattle.uring_operations.specs.Requests.Starts.{Step, FindsEarlier, FindsOwn, BeginsTime, LooksUp, AsksEvents, Looks, SeeksBuffer, place, is_due}

-- the bit of a step, where it is due, is 2 to the power of its place: so steps are done by rising bits. Our own rule
abbrev pub bit : Starting → Step → ℕ
bit s step = if is_due s step then 2 ^ place step else 0

abbrev pub word_of_starting : Starting → ℕ
word_of_starting s =
    bit_or (bit_or (bit_or (bit_or (bit_or (bit_or
    (bit s FindsEarlier) (bit s FindsOwn)) (bit s BeginsTime)) (bit s LooksUp)) (bit s AsksEvents))
    (bit s Looks)) (bit s SeeksBuffer)
