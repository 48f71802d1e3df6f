-- What is asked and may not be answered, in words that C can read.
use Rattle.std.specs.Prelude.{ℕ, ◌==◌, if◌then◌else◌}
use Rattle.uring_enter.specs.declared.call.unknown.Matter.{Matter}
use Rattle.uring_enter.specs.declared.call.unknown.Matter.TheVariants.{Reached, Eventfd, Counter, Processor, SameFile, Locked}
pub use Rattle.uring_ffi.specs.Registered.PinningForm.{known_of}

-- matters count in the order of `Matter`, from 0. Our own rule
abbrev pub matter_of : ℕ → Matter
matter_of word =
    if word == 0 then Reached else
    if word == 1 then Eventfd else
    if word == 2 then Counter else
    if word == 4 then SameFile else
    if word == 5 then Locked else Processor
