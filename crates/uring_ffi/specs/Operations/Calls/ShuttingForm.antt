-- What is next after a call whose socket may have been shut down, in words that C can read.
use Rattle.std.specs.Prelude.{ℕ, ℤ, ◌==◌, Option, Some, None, if◌then◌else◌}
use Rattle.uring_operations.specs.declared.calls.call_results.Shutting.{Shutting}
use Rattle.uring_operations.specs.declared.calls.call_results.Shutting.TheVariants.{Ends, AsksShut, CallsAgain, AsksWill, AsksLocal}

-- an end is 0, and what is done counts in the order of `Shutting` after it. Our own rule
abbrev pub word_of_shutting : Shutting → ℕ
word_of_shutting (Ends _) = 0
word_of_shutting AsksShut = 1
word_of_shutting CallsAgain = 2
word_of_shutting AsksWill = 3
word_of_shutting AsksLocal = 4

abbrev pub end_of_shutting : Shutting → ℤ → ℤ
end_of_shutting (Ends res) old = res
end_of_shutting _ old = old

-- what was done, by the same numbers; nothing of another
abbrev pub shutting_of : ℕ → Option Shutting
shutting_of word =
    if word == 1 then Some AsksShut else
    if word == 2 then Some CallsAgain else
    if word == 3 then Some AsksWill else
    if word == 4 then Some AsksLocal else None
