-- How an operation is carried out, in words that C can read.
use Rattle.std.specs.Prelude.{ℕ, ℤ}
use Rattle.uring_operations.specs.declared.files.asking.Locking.{Locking}
use Rattle.uring_operations.specs.declared.files.asking.Locking.TheVariants.{Tries, Yields, Pauses, Holds, GoesWithout}
use Rattle.uring_enter.specs.declared.going_on.carrying.Source.{Source}
use Rattle.uring_enter.specs.declared.going_on.carrying.Source.TheVariants.{Start, Entry, Fault, HalfOfCalls, Calls}
use Rattle.uring_enter.specs.declared.going_on.carrying.Calls.{Calls as Made}
use Rattle.uring_enter.specs.declared.going_on.carrying.Calls.TheVariants.{OfTransfer, OfPoll, InTurn, Once}

-- sources count in the order of `Source`, from 0. Our own rule
abbrev pub word_of_source : Source → ℕ
word_of_source Start = 0
word_of_source Entry = 1
word_of_source (Fault _) = 2
word_of_source HalfOfCalls = 3
word_of_source Calls = 4

-- the result of a fault is written, and no other is known by then
abbrev pub res_of_source : Source → ℤ → ℤ
res_of_source (Fault res) old = res
res_of_source _ old = old

-- calls count in the order of `Calls`, from 0. Our own rule
abbrev pub word_of_calls : Made → ℕ
word_of_calls OfTransfer = 0
word_of_calls OfPoll = 1
word_of_calls InTurn = 2
word_of_calls Once = 3

-- what is next for a lock counts in the order of `Locking`, from 0. Our own rule
abbrev pub word_of_locking : Locking → ℕ
word_of_locking Tries = 0
word_of_locking Yields = 1
word_of_locking Pauses = 2
word_of_locking Holds = 3
word_of_locking GoesWithout = 4
