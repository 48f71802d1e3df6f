-- What is about to be done in a call, in words that C can write.
use Rattle.std.specs.Prelude.{ℕ, Bool, ◌==◌, if◌then◌else◌}
use Rattle.uring_enter.specs.declared.call.signals.Doing.{Doing}
use Rattle.uring_enter.specs.declared.call.signals.Doing.TheVariants.{Looks, LooksUp, AsksNotToWait, CarriesOut}

-- kinds count in the order of `Doing`, from 0: what no other is, is an operation. Our own rule
abbrev pub doing_of : (word : ℕ) → (is_read is_stream : Bool) → Doing
doing_of word is_read is_stream =
    if word == 0 then Looks else
    if word == 1 then LooksUp else
    if word == 2 then AsksNotToWait else CarriesOut is_read is_stream
