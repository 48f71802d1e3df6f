-- What is left undone with a ring by a process that didn't make it, in words that C can read.
use Rattle.std.specs.Prelude.{ℕ, if◌then◌else◌}
use Rattle.std.specs.Int.RustNames.{bit_or}
use Rattle.uring_enter.specs.declared.waiting.leaving.Left.{Left}
use Rattle.uring_enter.specs.Waiting.Leaving.{Deed, LocksAgain, EndsSleep, DoesDuties, Looks, LetsGo, EndsMemory, is_left}

-- the bit of a deed, where it is left undone. Our own rule
abbrev pub weight : Deed → ℕ
weight LocksAgain = 1
weight EndsSleep = 2
weight DoesDuties = 4
weight Looks = 8
weight LetsGo = 16
weight EndsMemory = 32

abbrev pub bit : Left → Deed → ℕ
bit l deed = if is_left l deed then weight deed else 0

abbrev pub word_of_left : Left → ℕ
word_of_left l =
    bit_or (bit_or (bit_or (bit_or (bit_or
    (bit l LocksAgain) (bit l EndsSleep)) (bit l DoesDuties)) (bit l Looks))
    (bit l LetsGo)) (bit l EndsMemory)
