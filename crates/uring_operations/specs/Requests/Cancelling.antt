-- What is done with a request that a cancel has found. io_uring_enter(2), IORING_OP_ASYNC_CANCEL.
use Rattle.std.specs.Prelude.{◌≡◌, ℕ, Bool, true, not, ◌&&◌, nat_lt, List}
use Rattle.uring_operations.specs.declared.requests.act.Fact.{Fact}
use Rattle.uring_operations.specs.declared.requests.cancelling.Cancelling.{Cancelling}
use Rattle.uring_operations.specs.Requests.Courses.{has_started, has_ended}

pub data CancelStep : Type 0 where
  Rouses : CancelStep
  LooksAgain : CancelStep
  StopsTime : CancelStep
  Marks : CancelStep

-- the place of a step among those of one cancelling: they are done by rising places
abbrev pub place : CancelStep → ℕ
place Rouses = 0
place LooksAgain = 1
place StopsTime = 2
place Marks = 3

abbrev pub is_done : Cancelling → CancelStep → Bool
is_done f Rouses = f.rouses
is_done f LooksAgain = f.looks_again
is_done f StopsTime = f.stops_time
is_done f Marks = f.marks

-- a request that runs may be dormant, or be known to wait: it is roused and looked at again, since it ends when it is next gone on with. One that hasn't started is neither. The time of any that is found goes by that, and then it is marked. The order is our own rule: a kernel does all of it in one moment
abbrev pub cancelling_by : (runs : Bool) → Cancelling
cancelling_by runs = record {
  rouses = runs;
  looks_again = runs;
  stops_time = true;
  marks = true;
}

abbrev pub at_cancel : List Fact → Cancelling
at_cancel log = cancelling_by (has_started log && not (has_ended log))

-- whether a step that is done comes before another
abbrev pub comes_before : Cancelling → CancelStep → CancelStep → Bool
comes_before f first second = is_done f first && is_done f second && nat_lt (place first) (place second)

-- one that runs is roused before its time stops, and any has its time stopped before it is marked
abbrev pub MarksAtLast : Type 0
MarksAtLast = (runs : Bool) → (comes_before (cancelling_by runs) StopsTime Marks ≡ true)
    × (runs ≡ true → (comes_before (cancelling_by runs) Rouses LooksAgain ≡ true)
    × (comes_before (cancelling_by runs) LooksAgain StopsTime ≡ true))
