-- When a sleep of a call isn't begun after all, and what came of a wait. io_uring_enter(2), errors, but where our own rule is named.
use Rattle.std.specs.Prelude.{◌≡◌, ℕ, ℤ, pos, negsuc, Bool, true, false, not, ◌&&◌, ◌||◌, nat_le, if◌then◌else◌}
use Rattle.std.specs.Ordering.{int_eq}
use Rattle.uring_entry.specs.Errors.{error}
use Rattle.uring_operations.specs.declared.entries.needs.Needs.{Needs}
use Rattle.uring_operations.specs.declared.requests.ready.RequestStanding.{RequestStanding}
use Rattle.uring_enter.specs.declared.waiting.sleeping.Beginning.{Beginning}
use Rattle.uring_enter.specs.declared.waiting.sleeping.Beginning.TheVariants.{Fails, Wakes, Sleeps}
use Rattle.uring_enter.specs.declared.waiting.sleeping.SleptFor.{SleptFor}
use Rattle.uring_enter.specs.declared.waiting.sleeping.Waited.{Waited}
use Rattle.uring_operations.specs.Requests.Readiness.{polls}
use Rattle.uring_enter.specs.declared.waiting.sleeping.Outcome.{Outcome}
use Rattle.uring_enter.specs.declared.waiting.sleeping.Outcome.TheVariants.{Woken, TimedOut, Interrupted, Endless, Failed, LeastOver}

abbrev pub is_error : ℤ → Bool
is_error (negsuc _) = true
is_error (pos _) = false

-- what a sleep came to, by its system call: a child that was forked in it, as by a signal's handler, and returns from it leaves its parent's ring as it is. To it a signal has ended the sleep, -4 (EINTR). Our own rule
abbrev pub came_to : ℤ → (is_child : Bool) → ℤ
came_to res is_child = if is_child then error 4 else res

-- a sleep is by an epoll instance, since whatever signal comes ends that, as it does a call on a kernel's ring, and so does a stop: poll(2) would go on where no handler ran (signal(7), interruption of system calls by stop signals). It is by poll(2) where the kernel has no such call (-38, ENOSYS), or a filter refuses it (-1, EPERM). Our own rule
abbrev pub sleeps_by_poll : ℤ → Bool
sleeps_by_poll came = int_eq came (error 38) || int_eq came (error 1)

-- poll(2) is refused with -22 (EINVAL) that is asked of more descriptors than the process may have open: select(2) has no such limit, and is asked in its place. Our own rule
abbrev pub asks_select : ℤ → Bool
asks_select came = int_eq came (error 22)

-- a call whose last argument is at fault doesn't sleep, and fails with that; nor does one before whose sleep a poll was told of what another has written to its pipe, since that goes on
abbrev pub beginning_of : ℤ → Bool → Beginning
beginning_of fault is_told =
    if is_error fault then Fails else
    if is_told then Wakes else Sleeps

-- where there was nothing to wait for a message may have come just now, which goes on if it can be posted; else nothing ever comes. Our own rule
abbrev pub unless_message : Bool → Outcome
unless_message can_post = if can_post then Woken else Endless

-- a timeout whose time is over fires after a sleep only if that came to its end: where a signal or an error ended it the call returns with that, and the timeout fires in the next. Our own rule
abbrev pub fires_after : Waited → Bool
fires_after w = not w.is_never && not (is_error w.result)

-- a sleep naps for a request that was carried out in vain twice or more, though its descriptor showed ready, and shows so still: a poll of it would end each sleep at once. So it is of a local socket that connects where no more are taken, and of a counter that has no room for what is added. And it naps for one that has no descriptor, as the open of a named pipe: nothing tells that the other end was opened. Our own rule
abbrev pub naps_for : Needs → (vain : ℕ) (is_ready : Bool) → Bool
naps_for n vain is_ready = not n.needs_file || nat_le 2 vain && is_ready

-- whether a descriptor shows ready matters to one that has such, and was carried out in vain so often. Our own rule
abbrev pub asks_before_nap : Needs → (vain : ℕ) → Bool
asks_before_nap n vain = n.needs_file && nat_le 2 vain

-- once its descriptor has shown that it isn't ready, what was in vain counts no more. Our own rule
abbrev pub vain_after : Needs → (vain : ℕ) (is_ready : Bool) → ℕ
vain_after n vain is_ready = if asks_before_nap n vain && not is_ready then 0 else vain

-- a sleep polls the descriptor of each request that may have to wait for it, but for whom it naps; and it naps beside the poll for one of whose socket poll(2) doesn't tell that it was shut down for writing. Others it is without. Our own rule
abbrev pub slept_for : RequestStanding → Needs → (vain : ℕ) (is_ready asks_broken : Bool) → SleptFor
slept_for s n vain is_ready asks_broken = record {
  vain = vain_after n vain is_ready;
  is_polled = polls s && not (naps_for n vain is_ready);
  naps = polls s && (naps_for n vain is_ready || asks_broken);
}

-- where it isn't asked whether a descriptor shows ready, the sleep is the same
abbrev pub NapsAlikeUnasked : Type 0
NapsAlikeUnasked = (s : RequestStanding) (n : Needs) (vain : ℕ) (asks_broken : Bool) → asks_before_nap n vain ≡ false
    → slept_for s n vain true asks_broken ≡ slept_for s n vain false asks_broken

-- a sleep is woken by whatever it waits for if it naps for no request, and has a descriptor by which another thread wakes it. Our own rule
abbrev pub can_be_woken : (has_descriptor naps : Bool) → Bool
can_be_woken has_descriptor naps = has_descriptor && not naps

-- which of the caller's times is over: its least time, after which one completion is enough, or its limit
abbrev pub over : (is_least : Bool) → Outcome
over is_least = if is_least then LeastOver else TimedOut

-- a signal ends the sleep with -4 (EINTR), and another error with itself; else the caller's time is over, or something may go on
abbrev pub outcome_of : Waited → Outcome
outcome_of w =
    if w.is_never then unless_message (w.has_messages && w.may_post) else
    if int_eq w.result (error 4) then Interrupted else
    if is_error w.result then Failed else
    if w.is_over then over w.is_least else Woken
