-- Whether a sleep was left by a jump of a signal's handler (longjmp(3)), as its thread sees it that calls once more. Our own rules; a stack grows downwards, and handlers may have one of their own, sigaltstack(2).
use Rattle.std.specs.Prelude.{ℕ, Bool, false, not, ◌-◌, ◌&&◌, ◌||◌, ◌==◌, nat_le, nat_lt, Option, Some, None}
use Rattle.uring_enter.specs.declared.waiting.jumping.SeenSleep.{SeenSleep}

-- whether a sleep has its mark still, by what stands in its frame, if that can be read: a stack on which a thread sleeps is memory, so one that isn't any more was left
abbrev pub has_mark : (mark : ℕ) → Option ℕ → Bool
has_mark mark (Some found) = found == mark
has_mark mark None = false

-- whether an address stands on a stack of so many bytes from its lowest on. One of no bytes holds none
abbrev pub is_on : (lowest size at : ℕ) → Bool
is_on lowest size at = nat_le lowest at && nat_lt (at - lowest) size

-- a call that is made on a stack of the layer's has its sleep there, and handlers that come in it run there too. So what is called from elsewhere comes from no handler. Where the sleep stands on the stack of its call, a handler that has come in it has its frames below that: so what is called from above doesn't come from one
abbrev pub is_above : SeenSleep → Bool
is_above s = not (s.from == s.place) || nat_lt s.from s.here

-- a handler's stack tells nothing of what lies above, be it that of this moment or the one that handlers had as the sleep began: it may stand anywhere, in the thread's too
abbrev pub is_on_handlers : SeenSleep → Bool
is_on_handlers s = s.is_on_handlers || is_on s.handlers_lowest s.handlers_size s.here

-- that is told only of the stack that the thread was made with: a program's own threads may have others
abbrev pub are_on_own : SeenSleep → Bool
are_on_own s = is_on s.own_lowest s.own_size s.here && is_on s.own_lowest s.own_size s.from

-- whether it matters which stacks the thread has: its sleep has its mark still, and the call comes from above
abbrev pub asks_stacks : SeenSleep → Bool
asks_stacks s = s.is_marked && is_above s

-- a sleep lasts as long as its mark stands in its frame, if no call is seen to be made from above. Another was left
abbrev pub was_left : SeenSleep → Bool
was_left s = not s.is_marked || (is_above s && are_on_own s && not (is_on_handlers s))

-- whether a thread can be cancelled outside of its calls (pthread_setcancelstate(3)) that calls once more. A call forbids it, and one that was left by a jump hasn't allowed it again: so what was allowed as the outermost of them began is so again, unless a sleep lasts still. Where it is allowed now, the program itself has done so
abbrev pub is_cancellable : (has_sleeps could_be can_be : Bool) → Bool
is_cancellable has_sleeps could_be can_be = can_be || not has_sleeps && could_be

-- whether it can be at any moment (PTHREAD_CANCEL_ASYNCHRONOUS, pthread_setcanceltype(3)). The C library's ppoll allows that while it lasts: so one that was left by a jump has it forbidden again, unless it was allowed as the outermost of them began, or a sleep lasts still. Where it is forbidden now, the program itself has done so
abbrev pub is_cancellable_at_once : (has_sleeps could_be can_be : Bool) → Bool
is_cancellable_at_once has_sleeps could_be can_be = can_be && (has_sleeps || could_be)
