-- How an epoll instance is asked to tell of a poll's events, and what becomes of the poll. epoll_ctl(2); io_uring_enter(2), IORING_OP_POLL_ADD.
use Rattle.std.specs.Prelude.{ℕ, ℤ, pos, Bool, false, not, int_lt, if◌then◌else◌}
use Rattle.std.specs.Int.RustNames.{bit_or}
use Rattle.std.specs.Ordering.{int_eq}
use Rattle.uring_operations.specs.declared.calls.instance.PollStart.{PollStart}
use Rattle.uring_operations.specs.Calls.CallTries.{unpolled_result}
use Rattle.uring_entry.specs.Errors.{error, is_below}

-- it is asked for edges (EPOLLET, 2^31): so a poll that goes on is told of each event once, and not as long as it is there. An entry that asks for levels (IORING_POLL_ADD_LEVEL) has a fault. What Linux 6.18 was seen to do
abbrev pub instance_events : ℕ → ℕ
instance_events events = bit_or events 2147483648

-- a descriptor can't be polled of which an instance says so: -1, EPERM
abbrev pub can_be_polled : ℤ → Bool
can_be_polled res = not (int_eq res (error 1))

-- with what a READ_MULTISHOT fails as it starts, where asking an instance for its descriptor came to this, 0 or an error: -77 (EBADFD) if that can't be polled. io_uring_prep_read_multishot(3)
abbrev pub polling_fault : ℤ → ℤ
polling_fault res = if can_be_polled res then res else error 77

-- a regular file can be polled if an instance takes it. Where there is no instance, or it takes no more, the file is taken for one that can't be, as most are. Our own rule
abbrev pub counts_as_polled : ℤ → Bool
counts_as_polled res = int_eq res (pos 0)

-- with what an unpolled one fails as it starts; or 0: poll(2) finds at once what it ends with
abbrev pub fault_of : ℤ → ℤ
fault_of unpolled = if is_below unpolled then unpolled else pos 0

-- what is there for a poll is what a call shows that came to a count. One that fails, as where memory is short, shows nothing: the poll waits on, and asks again. Our own rule
abbrev pub present_of : ℤ → (events : ℕ) → ℕ
present_of came events = if int_lt (pos 0) came then events else 0

-- how a poll for these events starts, which can have more than one completion or can't, where asking an instance came to this, 0 or an error: it fails with that error, and one whose descriptor can't be polled has one completion
abbrev pub poll_start : ℕ → Bool → ℤ → PollStart
poll_start events goes_on res =
    if can_be_polled res then record { fault = res; goes_on = goes_on } else
    record { fault = fault_of (unpolled_result events); goes_on = false }
