-- What the update of a poll does with it, in words that C can read.
use Rattle.std.specs.Prelude.{ℕ, ◌^◌, if◌then◌else◌}
use Rattle.std.specs.Int.RustNames.{bit_or}
use Rattle.uring_operations.specs.declared.requests.afresh.Changing.{Changing}
use Rattle.uring_operations.specs.Requests.Afresh.{ChangingStep, Rouses, Delists, Changes, Unwatches, AsksEvents, Looks, place, is_done}

-- the bit of a step, where it is done, is 2 to the power of its place: so steps are done by rising bits. Our own rule
abbrev pub bit : Changing → ChangingStep → ℕ
bit s step = if is_done s step then 2 ^ place step else 0

abbrev pub word_of_changing : Changing → ℕ
word_of_changing s =
    bit_or (bit_or (bit_or (bit_or (bit_or
    (bit s Rouses) (bit s Delists)) (bit s Changes)) (bit s Unwatches))
    (bit s AsksEvents)) (bit s Looks)
