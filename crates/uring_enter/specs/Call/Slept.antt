-- With which fault a call that is to sleep fails. io_uring_enter(2), ERRORS, but where another source is named.
use Rattle.std.specs.Prelude.{ℕ, ℤ, pos, Bool, not, ◌&&◌, Option, Some, None, if◌then◌else◌}
use Rattle.uring_entry.specs.Errors.{is_below}
use Rattle.uring_enter.specs.Call.Unknown.{reads_mask}

-- a mask is read where the call gives one, before its first sleep, and not where the last argument has a fault: with that the call fails. What Linux 6.18 was seen to do
abbrev pub asks_mask : (has_mask : Bool) → ℤ → ℕ → Bool
asks_mask has_mask argument sleeps = has_mask && not (is_below argument) && reads_mask sleeps

abbrev pub fault_of_mask : Option ℤ → ℤ
fault_of_mask None = pos 0
fault_of_mask (Some fault) = fault

-- the fault of the last argument comes before that of the mask, which has none where it wasn't read
abbrev pub sleep_fault : ℤ → Option ℤ → ℤ
sleep_fault argument mask = if is_below argument then argument else fault_of_mask mask
