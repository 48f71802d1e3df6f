-- In which order writes to pipes are heard, and where what has overflowed is asked for, in words that C can read.
use Rattle.std.specs.Prelude.{ℕ, true, false, ◌==◌, Option, Some, None, if◌then◌else◌}
use Rattle.uring_enter.specs.declared.waiting.hearing.Hearing.{Hearing}
use Rattle.uring_enter.specs.declared.waiting.hearing.Hearing.TheVariants.{Adds, Drops, TellsOfGone, Sorts, Reads, CountsAsHeard}
use Rattle.uring_enter.specs.declared.waiting.hearing.Telling.{Telling}
use Rattle.uring_enter.specs.declared.waiting.hearing.Telling.TheVariants.{PassesOver, Asks, Tells}
use Rattle.uring_enter.specs.declared.completions.storing.Occasion.{Occasion}
use Rattle.uring_enter.specs.declared.completions.storing.Occasion.TheVariants.{Call, Step, Posting}

-- what is done counts in the order of `Hearing`, from 1; 0 is nothing. Our own rule
abbrev pub word_of_hearing : Option Hearing → ℕ
word_of_hearing None = 0
word_of_hearing (Some Adds) = 1
word_of_hearing (Some Drops) = 2
word_of_hearing (Some TellsOfGone) = 3
word_of_hearing (Some Sorts) = 4
word_of_hearing (Some Reads) = 5
word_of_hearing (Some CountsAsHeard) = 6

abbrev pub hearing_of : ℕ → Option Hearing
hearing_of word =
    if word == 1 then Some Adds else
    if word == 2 then Some Drops else
    if word == 3 then Some TellsOfGone else
    if word == 4 then Some Sorts else
    if word == 5 then Some Reads else
    if word == 6 then Some CountsAsHeard else None

-- kinds count in the order of `Telling`, from 0. Our own rule
abbrev pub word_of_telling : Telling → ℕ
word_of_telling PassesOver = 0
word_of_telling Asks = 1
word_of_telling Tells = 2

-- a call that doesn't ask is 0, one that asks 1, a step 2, and any other that a completion may be posted. Our own rule
abbrev pub occasion_of : ℕ → Occasion
occasion_of word =
    if word == 0 then Call false else
    if word == 1 then Call true else
    if word == 2 then Step else Posting
