-- When a sleep begins and what came of it, in words that C can read.
use Rattle.std.specs.Prelude.{ℕ, not, Option, Some, None, ◌==◌, if◌then◌else◌}
use Rattle.uring_enter.specs.declared.waiting.sleeping.Beginning.{Beginning}
use Rattle.uring_enter.specs.declared.waiting.sleeping.Beginning.TheVariants.{Fails, Wakes, Sleeps}
use Rattle.uring_enter.specs.declared.rings.closing.BeforeSleep.{BeforeSleep}
use Rattle.uring_enter.specs.declared.rings.closing.BeforeSleep.TheVariants.{LetsOthersGo, ReadsMask, DoesDuties}
use Rattle.uring_enter.specs.declared.rings.closing.SleepOnto.{SleepOnto}
use Rattle.uring_enter.specs.declared.rings.closing.SleepOnto.TheVariants.{Does, Begins}
use Rattle.uring_enter.specs.declared.waiting.sleeps.SleepCall.{SleepCall}
use Rattle.uring_enter.specs.declared.waiting.sleeping.Outcome.{Outcome}
use Rattle.uring_enter.specs.declared.waiting.sleeping.Outcome.TheVariants.{Woken, TimedOut, Interrupted, Endless, Failed, LeastOver}

-- kinds count in the order of `Beginning`, from 0. Our own rule
abbrev pub word_of_beginning : Beginning → ℕ
word_of_beginning Fails = 0
word_of_beginning Wakes = 1
word_of_beginning Sleeps = 2

-- and after them what is done before a sleep, in the order of `BeforeSleep`
abbrev pub word_of_sleep : SleepOnto → ℕ
word_of_sleep (Begins beginning) = word_of_beginning beginning
word_of_sleep (Does LetsOthersGo) = 3
word_of_sleep (Does ReadsMask) = 4
word_of_sleep (Does DoesDuties) = 5

-- what was done, by that word; None: nothing
abbrev pub step_of : ℕ → Option BeforeSleep
step_of word =
    if word == 3 then Some LetsOthersGo else
    if word == 4 then Some ReadsMask else
    if word == 5 then Some DoesDuties else None

-- by poll(2), by an instance, or by one that is asked what else is ready, as one is. Our own rule
abbrev pub word_of_sleep_call : SleepCall → ℕ
word_of_sleep_call call =
    if not call.by_instance then 0 else
    if not call.is_ready then 1 else 2

-- the kinds of replies to a call that wants to sleep
abbrev pub word_of_outcome : Outcome → ℕ
word_of_outcome Woken = 7
word_of_outcome TimedOut = 8
word_of_outcome Interrupted = 9
word_of_outcome Endless = 10
word_of_outcome Failed = 11
word_of_outcome LeastOver = 13
