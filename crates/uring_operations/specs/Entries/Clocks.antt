-- The time and the count that a timeout gives. io_uring_enter(2), IORING_OP_TIMEOUT: IORING_TIMEOUT_ABS is 1, IORING_TIMEOUT_BOOTTIME 4, IORING_TIMEOUT_REALTIME 8 and IORING_TIMEOUT_ETIME_SUCCESS 32.
use Rattle.std.specs.Prelude.{ℕ, ◌-◌, Bool, not, ◌||◌, ◌==◌, Option, Some, None, if◌then◌else◌}
use Rattle.std.specs.Int.RustNames.{bit_and}
use Rattle.uring_operations.specs.declared.entries.submission.Submission.{Submission}
use Rattle.uring_operations.specs.declared.entries.timeout.Clock.{Clock}
use Rattle.uring_operations.specs.declared.entries.timeout.Clock.TheVariants.{Monotonic, Boottime, Realtime}

abbrev pub has_some : ℕ → ℕ → Bool
has_some flags bits = not (bit_and flags bits == 0)

-- TIMEOUT is 11, which ends by its time or its count, and LINK_TIMEOUT 15, which limits the request before it. io_uring_enter(2)
abbrev pub is_timeout : ℕ → Bool
is_timeout code = code == 11

abbrev pub is_linked_timeout : ℕ → Bool
is_linked_timeout code = code == 15

-- either is timed by what happens to itself too: as it starts, is found and ends, it is asked what becomes of its time
abbrev pub is_timed : ℕ → Bool
is_timed code = is_timeout code || is_linked_timeout code

-- the clock of an absolute time: that of the flag, else CLOCK_MONOTONIC. A relative one has none: it lasts so long
abbrev pub clock_of : Submission → Option Clock
clock_of e =
    if not (has_some e.op_flags 1) then None else
    if has_some e.op_flags 4 then Some Boottime else
    if has_some e.op_flags 8 then Some Realtime else Some Monotonic

-- how long a timeout lasts: an absolute time for what is left of it by its clock now, a relative one as long as it says
abbrev pub lasts : ℕ → Option ℕ → ℕ
lasts time None = time
lasts time (Some now) = time - now

-- how many completions it counts, which 32 bits of `off` say; 0: it has no count
abbrev pub count_of : Submission → ℕ
count_of e = bit_and e.off 4294967295
