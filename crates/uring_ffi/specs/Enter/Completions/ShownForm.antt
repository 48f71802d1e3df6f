-- What is to be stored into ring memory, when a ring's descriptor is readable, what a completion tells of, and what a cancel looks for that has ended, in words that C can read.
use Rattle.std.specs.Prelude.{ℕ, true, false}
use Rattle.uring_enter.specs.declared.completions.readable.Readable.{Readable}
use Rattle.uring_enter.specs.declared.completions.readable.Readable.TheVariants as readable
use Rattle.uring_enter.specs.declared.completions.shot.Part.{Part}
use Rattle.uring_enter.specs.declared.completions.shot.Part.TheVariants as part
use Rattle.uring_operations.specs.declared.requests.outcome.SoughtAfter.{SoughtAfter}
use Rattle.uring_operations.specs.declared.requests.outcome.SoughtAfter.TheVariants as sought
use Rattle.uring_enter.specs.declared.completions.showing.Store.{Store}
use Rattle.uring_enter.specs.declared.completions.showing.Store.TheVariants.{Cell, Tail}
use Rattle.uring_ffi.specs.declared.enter.completions.shown_exports.StoreWords.{StoreWords}

abbrev pub words_of_store : Store → StoreWords
words_of_store (Cell place position) = record { place = place; position = position; is_cell = true }
words_of_store (Tail position) = record { place = 0; position = position; is_cell = false }

-- whether it is, and what is asked, counts in the order of `Readable`, from 0. Our own rule
abbrev pub word_of_readable : Readable → ℕ
word_of_readable readable.IsNot = 0
word_of_readable readable.Is = 1
word_of_readable readable.AsksRequests = 2
word_of_readable readable.AsksTime = 3

-- what a completion tells of counts in the order of `Part`, from 0. Our own rule
abbrev pub word_of_part : Part → ℕ
word_of_part part.Event = 0
word_of_part part.Sent = 1
word_of_part part.Notice = 2
word_of_part part.Own = 3

-- what a cancel looks for counts in the order of `SoughtAfter`, from 0. Our own rule
abbrev pub word_of_sought : SoughtAfter → ℕ
word_of_sought sought.Running = 0
word_of_sought sought.Next = 1
word_of_sought sought.Nothing = 2
