-- How long a call sleeps at most, and what time it is after a sleep that came to its end. Our own rules: where no descriptor is left by which another thread could wake the sleeper, it naps, and looks again.
use Rattle.std.specs.Prelude.{◌≡◌, ◌<◌, ℕ, ℤ, pos, ◌+◌, ◌*◌, ◌-◌, Bool, not, ◌&&◌, ◌||◌, nat_le, min, max, Option, Some, None, List, ◌∷◌, if◌then◌else◌}
use Rattle.std.specs.Ordering.{int_eq}
use Rattle.uring_enter.specs.declared.waiting.sleeps.Span.{Span}
use Rattle.uring_entry.specs.Errors.{is_below}
use Rattle.uring_enter.specs.Waiting.Watching.{cant_tell, is_ready}
use Rattle.uring_enter.specs.declared.waiting.sleeps.SleepCall.{SleepCall}
use Rattle.uring_enter.specs.declared.waiting.watched.Enlisted.{Enlisted}
use Rattle.uring_operations.specs.Entries.Timeouts.{Event, Clock, Slept, time}

-- 10 milliseconds, in nanoseconds
abbrev pub nap : ℕ
nap = 10000000

-- how much is left until then, after this log. What is over has nothing left
abbrev pub left : List Event → ℕ → ℕ
left log at = at - time log

-- how long a call sleeps at most that is to sleep until then: all that is left, but one that can't be woken no longer than a nap
abbrev pub lasts_at_most : List Event → Option ℕ → Bool → Option ℕ
lasts_at_most log None can_be_woken = if can_be_woken then None else Some nap
lasts_at_most log (Some at) can_be_woken =
    Some (if can_be_woken then left log at else min (left log at) nap)

-- to when time moves on after a sleep that came to its end: to then, exactly if all that was left was slept. A nap that was cut adds only what a clock says
abbrev pub comes_to : List Event → Option ℕ → Bool → Option ℕ
comes_to log None can_be_woken = None
comes_to log (Some at) can_be_woken =
    if can_be_woken || nat_le (left log at) nap then Some at else None

abbrev pub after_end : List Event → Option ℕ → List Event
after_end log None = log
after_end log (Some at) = Clock at ∷ log

-- to when a sleep has come: to its end only if nothing has ended it before, which ppoll(2) says by 0. One that a descriptor, a signal or an error has ended adds only what a clock says
abbrev pub reached : Option ℕ → ℤ → Option ℕ
reached end came = if int_eq came (pos 0) then end else None

-- what has happened after a sleep
abbrev pub after_sleep : List Event → Option ℕ → ℤ → List Event
after_sleep log end came = after_end log (reached end came)

-- what a sleep lets pass by a clock: where time is real it is what the clock says since the ring's time began, and else what was slept is added
abbrev pub passes : (is_real : Bool) → (origin start stop : ℕ) → Event
passes is_real origin start stop = if is_real then Clock (stop - origin) else Slept start stop

-- a time in whole seconds and what is left of it, which is less than one. nanosleep(2), struct timespec
abbrev pub IsSpan : ℕ → Span → Type 0
IsSpan time span = (span.seconds * 1000000000 + span.nanoseconds ≡ time) × (span.nanoseconds < 1000000000)

-- where no time may pass at all a kernel doesn't look for signals (epoll_pwait2(2) with no time): so a moment passes, the least there is
abbrev pub moment_at_least : Option ℕ → Option ℕ
moment_at_least None = None
moment_at_least (Some at) = Some (max at 1)

-- a sleep is by an epoll instance where there is one that can tell of all. Where a descriptor is ready of which it needn't be told, the instance is asked only what else is, and no time passes
abbrev pub sleep_call : (has_instance : Bool) → Enlisted → Option ℕ → SleepCall
sleep_call has_instance all limit = record {
  by_instance = has_instance && not (cant_tell all);
  is_ready = is_ready all;
  limit = if is_ready all then Some 0 else moment_at_least limit;
}

-- that one has ended the sleep, then, whatever the instance has told; an error is one all the same
abbrev pub sleep_came : (is_ready : Bool) → ℤ → ℤ
sleep_came is_ready came = if is_ready && not (is_below came) then pos 1 else came
