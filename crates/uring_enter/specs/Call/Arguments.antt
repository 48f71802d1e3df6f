-- The last arguments of a call. io_uring_enter(2), IORING_ENTER_GETEVENTS and IORING_ENTER_EXT_ARG; what is read when, and the order of the faults, is what Linux 6.18 does.
use Rattle.std.specs.Prelude.{ℕ, ◌*◌, ℤ, pos, Bool, not, ◌&&◌, ◌==◌, Option, Some, None, if◌then◌else◌}
use Rattle.std.specs.Ordering.{int_eq}
use Rattle.std.specs.Int.RustNames.{bit_and}
use Rattle.uring_entry.specs.Errors.{error}
use Rattle.uring_operations.specs.Entries.Clocks.{has_some}
use Rattle.uring_enter.specs.Call.Replies.{is_none}
use Rattle.uring_enter.specs.declared.call.argument.Argument.{Argument}
use Rattle.uring_enter.specs.declared.call.argument.Extended.{Extended}
use Rattle.uring_enter.specs.declared.call.argument.Given.{Given}

-- with IORING_ENTER_EXT_ARG (8) it is a structure of a mask and a time, else a mask alone
abbrev pub is_extended : ℕ → Bool
is_extended flags = has_some flags 8

-- a call reads its argument after its submission, if it gets events and all was submitted. Else nothing of it is refused
abbrev pub is_read : Bool → ℕ → ℤ → Bool
is_read gets to_submit submitted = gets && int_eq submitted (pos to_submit)

-- what a structure gives (`struct io_uring_getevents_arg`): a mask, at `sigmask`, of `sigmask_sz` bytes; a time, at `ts`, unless that is 0; and a least time, of `min_wait_usec` microseconds, unless that is 0
abbrev pub given_by : Extended → Given
given_by e = record {
  mask_at = e.sigmask;
  mask_size = e.sigmask_sz;
  time_at = e.ts;
  has_time = not (e.ts == 0);
  least = e.min_wait_usec * 1000;
  has_least = not (e.min_wait_usec == 0);
}

-- the time that a structure names is read: -14 (EFAULT)
abbrev pub time_fault : Argument → ℤ
time_fault a = if a.has_time && not a.is_time_readable then error 14 else pos 0

-- of a structure first its size is looked at, which is 24 bytes: -22 (EINVAL); then it is read: -14 (EFAULT); and then its time is read. A mask alone has no fault yet
abbrev pub argument_fault : Argument → ℤ
argument_fault a =
    if not a.is_extended then pos 0 else
    if not (a.size == 24) then error 22 else
    if not a.is_readable then error 14 else time_fault a

-- a mask has 8 bytes: -22 (EINVAL); and it is read, -14 (EFAULT), where the call is to sleep. Where there is enough to return, it isn't looked at
abbrev pub mask_fault : ℕ → Bool → ℤ
mask_fault size is_readable =
    if not (size == 8) then error 22 else
    if is_readable then pos 0 else error 14

-- with which mask a call sleeps that gives this one: where calls are trapped, a handler that runs meanwhile may call too, by SIGSYS (31), which stays open whatever is asked. Our own rule: a kernel's sleeps with what it gives
abbrev pub slept_with : (mask : ℕ) → (is_trapped : Bool) → ℕ
slept_with mask is_trapped = if is_trapped then bit_and mask 18446744072635809791 else mask

-- how many entries were submitted, or why none was, stands above a fault of the argument
abbrev pub with_fault : ℤ → ℤ → ℤ
with_fault submitted fault = if is_none submitted then fault else submitted

-- until when a call sleeps at most, which has a least time that isn't over, and a limit: the limit is looked at once the least time is over, also where it is the shorter of them. What Linux 6.18 was seen to do
abbrev pub sleeps_to : (least limit : Option ℕ) → Option ℕ
sleeps_to None limit = limit
sleeps_to (Some least) limit = Some least
