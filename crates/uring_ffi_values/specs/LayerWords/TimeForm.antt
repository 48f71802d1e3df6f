-- Times and waits in words that C can read.
use Rattle.std.specs.Prelude.{ℕ, ℤ, pos, negsuc, true, false, Option, Some, None, if◌then◌else◌}
use Rattle.uring_operations.specs.declared.entries.timeout.Timeout.{Timeout}
use Rattle.uring_operations.specs.declared.entries.timeout.Clock.{Clock}
use Rattle.uring_operations.specs.declared.entries.timeout.Clock.TheVariants.{Realtime, Monotonic, Boottime}
use Rattle.uring_enter.specs.declared.call.wait.Wait.{Wait}
use Rattle.uring_enter.specs.declared.call.wait.Wait.TheVariants.{Sleep, MoveTo, Never}
use Rattle.uring_enter.specs.declared.call.wait.Woken.{Woken}
use Rattle.uring_enter.specs.declared.call.wait.Woken.TheVariants.{Over, TimedOut, Other}
use Rattle.uring_ffi_values.specs.declared.layer_words.time_words.LimitWords.{LimitWords}
use Rattle.uring_ffi_values.specs.declared.layer_words.time_words.WaitWords.{WaitWords}
use Rattle.uring_ffi_values.specs.declared.layer_words.time_words.WokenWords.{WokenWords}

-- the limit of these words, if they set one
abbrev pub limit_of : LimitWords → Option ℕ
limit_of w = if w.is_set then Some w.at else None

abbrev pub words_of_limit : Option ℕ → LimitWords
words_of_limit (Some at) = record { at = at; is_set = true }
words_of_limit None = record { at = 0; is_set = false }

-- kinds count in the order of `Wait`, from 0. Our own rule
abbrev pub words_of_wait : Wait → WaitWords
words_of_wait (Sleep until) = record { until = words_of_limit until; kind = 0 }
words_of_wait (MoveTo at) = record { until = words_of_limit (Some at); kind = 1 }
words_of_wait Never = record { until = words_of_limit None; kind = 2 }

abbrev pub no_timeout : Timeout
no_timeout = record { number = 0; expiry = 0; enough = 0; is_linked = false }

-- kinds count in the order of `Woken`, from 0. Our own rule
abbrev pub words_of_woken : Woken → WokenWords
words_of_woken (Over timeout) = record { timeout = timeout; kind = 0 }
words_of_woken TimedOut = record { timeout = no_timeout; kind = 1 }
words_of_woken Other = record { timeout = no_timeout; kind = 2 }

-- the number of a clock of clock_gettime(2): CLOCK_REALTIME is 0, CLOCK_MONOTONIC 1 and CLOCK_BOOTTIME 7. -2 (ENOENT): there is none
abbrev pub word_of_clock : Option Clock → ℤ
word_of_clock (Some Realtime) = pos 0
word_of_clock (Some Monotonic) = pos 1
word_of_clock (Some Boottime) = pos 7
word_of_clock None = negsuc 1
