-- What is done with a request that a cancel has found, and where the file is looked for that it names, in words that C can read.
use Rattle.std.specs.Prelude.{ℕ, ◌^◌, if◌then◌else◌}
use Rattle.std.specs.Int.RustNames.{bit_or}
use Rattle.uring_operations.specs.declared.requests.cancelling.Cancelling.{Cancelling}
use Rattle.uring_enter.specs.declared.cancels.seeking.SoughtFile.{SoughtFile}
use Rattle.uring_enter.specs.declared.cancels.seeking.SoughtFile.TheVariants.{NoFile, OfSlot, OfNumber}
use Rattle.uring_operations.specs.Requests.Cancelling.{CancelStep, Rouses, LooksAgain, StopsTime, Marks, place, is_done}

-- kinds count in the order of `SoughtFile`, from 0. Our own rule
abbrev pub word_of_sought_file : SoughtFile → ℕ
word_of_sought_file NoFile = 0
word_of_sought_file OfSlot = 1
word_of_sought_file OfNumber = 2

-- the bit of a step, where it is done, is 2 to the power of its place: so steps are done by rising bits. Our own rule
abbrev pub bit : Cancelling → CancelStep → ℕ
bit s step = if is_done s step then 2 ^ place step else 0

abbrev pub word_of_cancelling : Cancelling → ℕ
word_of_cancelling s =
    bit_or (bit_or (bit_or (bit s Rouses) (bit s LooksAgain)) (bit s StopsTime)) (bit s Marks)
