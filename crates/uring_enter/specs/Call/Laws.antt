-- What holds of every call, whatever is replied. io_uring_enter(2), DESCRIPTION.
use Rattle.std.specs.Prelude.{◌≡◌, ℤ, Bool, true, false, not, ◌&&◌, ◌||◌, nat_lt, List, [], ◌∷◌}
use Rattle.uring_enter.specs.declared.call.asked.Asked.{Asked}
use Rattle.uring_enter.specs.declared.call.command.Command.TheVariants as command
use Rattle.uring_enter.specs.declared.call.reply.Sight.{Sight}
use Rattle.uring_enter.specs.declared.call.reply.Reply.{Reply}
use Rattle.uring_enter.specs.declared.call.reply.Reply.TheVariants.{Heard, WrongHead, Taken, WentOn, Chosen, Stuck, TimedOut, Interrupted, Endless, Failed, LeastOver, Passed}
use Rattle.uring_enter.specs.Call.Replies.{submission, is_none, waits, is_enough}
use Rattle.uring_enter.specs.Call.Due.{due, is_reply_to}

-- a run: each reply answers what the call wanted
abbrev pub is_run : Asked → List Reply → Bool
is_run a [] = true
is_run a (reply ∷ earlier) = is_reply_to (due a earlier) reply && is_run a earlier

-- the application was heard after the reply that nothing can go on, in a call that waits, and there isn't enough
abbrev pub IsInVain : Asked → List Reply → Type 0
IsInVain a (Heard sight ∷ Stuck _ ∷ earlier) =
    (waits a earlier ≡ true) × (is_enough a earlier sight ≡ false)
IsInVain a _ = ⊥

-- a call sleeps only in vain: it waits, nothing can go on, and there isn't enough
abbrev pub SleepsInVain : Type 0
SleepsInVain = (a : Asked) (log : List Reply) → is_run a log ≡ true
    → due a log ≡ command.Sleep → IsInVain a log

-- that nothing can ever come is replied only of such a sleep
abbrev pub GivesUpInVain : Type 0
GivesUpInVain = (a : Asked) (log : List Reply) → is_run a (Endless ∷ log) ≡ true → IsInVain a log

-- what was seen last is enough
abbrev pub saw_enough : Asked → List Reply → Bool
saw_enough a (Heard sight ∷ earlier) = is_enough a earlier sight
saw_enough a (Taken count sight ∷ earlier) = is_enough a (Taken count sight ∷ earlier) sight
saw_enough a (WentOn sight ∷ earlier) = is_enough a earlier sight
saw_enough a _ = false

-- why a call that waits may end: there is enough, also where the policy chose that it ends; or its least time is over, and there is a completion, or no limit; or its sleep has failed, or the application's head is wrong
abbrev pub MayEnd : Asked → List Reply → Type 0
MayEnd a (Chosen ∷ earlier) = saw_enough a earlier ≡ true
MayEnd a (TimedOut _ ∷ earlier) = Unit {0}
MayEnd a (LeastOver sight has_limit ∷ earlier) = (nat_lt 0 sight.ready || not has_limit) ≡ true
MayEnd a (Interrupted _ ∷ earlier) = Unit {0}
MayEnd a (Endless ∷ earlier) = Unit {0}
MayEnd a (Failed _ ∷ earlier) = Unit {0}
MayEnd a (WrongHead ∷ earlier) = Unit {0}
MayEnd a log = saw_enough a log ≡ true

-- a call that waits ends only for one of these reasons
abbrev pub EndsForAReason : Type 0
EndsForAReason = (a : Asked) (log : List Reply) (result : ℤ) → is_run a log ≡ true
    → waits a log ≡ true → due a log ≡ command.Return result → MayEnd a log

-- entries are submitted once, right after the first hearing
abbrev pub SubmitsOnce : Type 0
SubmitsOnce = (a : Asked) (log : List Reply) → is_run a log ≡ true
    → due a log ≡ command.Submit → (sight : Sight) × (log ≡ Heard sight ∷ [])

-- what was submitted is returned, or the error for which nothing was, whatever became of the call's waiting. io_uring_enter(2), RETURN VALUE
abbrev pub ReturnsWhatWasSubmitted : Type 0
ReturnsWhatWasSubmitted = (a : Asked) (log : List Reply) (result : ℤ) → due a log ≡ command.Return result
    → is_none (submission log) ≡ false → result ≡ submission log

-- nothing can go on: that was replied, and since then no more than that the application was heard, that time has passed, or that a sleep has ended otherwise than by what may go on
abbrev pub is_stuck : List Reply → Bool
is_stuck (Stuck _ ∷ earlier) = true
is_stuck (Heard _ ∷ earlier) = is_stuck earlier
is_stuck (Passed ∷ earlier) = is_stuck earlier
is_stuck (TimedOut _ ∷ earlier) = is_stuck earlier
is_stuck (LeastOver _ _ ∷ earlier) = is_stuck earlier
is_stuck (Interrupted _ ∷ earlier) = is_stuck earlier
is_stuck (Endless ∷ earlier) = is_stuck earlier
is_stuck (Failed _ ∷ earlier) = is_stuck earlier
is_stuck _ = false

-- whether the application's head is wrong, by which every call ends
abbrev pub is_wrong : List Reply → Bool
is_wrong (WrongHead ∷ earlier) = true
is_wrong _ = false

-- a call that isn't to leave what can go on ends only where nothing can, whatever it waits for, and whatever the program goes by. Our own rule
abbrev pub LeavesNothing : Type 0
LeavesNothing = (a : Asked) (log : List Reply) (result : ℤ) → is_run a log ≡ true
    → a.may_leave ≡ false → due a log ≡ command.Return result → (is_stuck log || is_wrong log) ≡ true
