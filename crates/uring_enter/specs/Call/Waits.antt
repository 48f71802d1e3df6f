-- How a call waits where nothing can go on. Our own rules: where a kernel's call would sleep until a timeout is over, virtual time passes at once; but it is real while a descriptor or another thread is waited for, and a signal comes first.
use Rattle.std.specs.Prelude.{◌≡◌, ℕ, Bool, true, false, not, ◌&&◌, ◌||◌, nat_le, ◌≤◌, Option, Some, None, List, [], ◌∷◌, if◌then◌else◌}
use Rattle.uring_operations.specs.declared.entries.timeout.Timeout.{Timeout}
use Rattle.uring_enter.specs.declared.call.wait.WakeSources.{WakeSources}
use Rattle.uring_enter.specs.declared.call.wait.Wait.{Wait}
use Rattle.uring_enter.specs.declared.call.wait.Wait.TheVariants.{Sleep, MoveTo, Never}
use Rattle.uring_enter.specs.declared.call.wait.Woken.{Woken}
use Rattle.uring_enter.specs.declared.call.wait.Woken.TheVariants.{Over, TimedOut, Other}
use Rattle.uring_operations.specs.Entries.Timeouts.{Event, later, time, running, is_over, NoneIsOver, IsNext, IsNextOf, IsDueOf, IsEarliest}
use Rattle.uring_enter.specs.Time.Kept.{due_of}

-- where virtual time passes at once it moves on to what comes first, or there is nothing to wait for
abbrev pub at_once : Option ℕ → Wait
at_once None = Never
at_once (Some until) = MoveTo until

-- a call sleeps while a descriptor is waited for; while another thread may call, if no timeout runs; and where time passes by itself, as a kernel's call does, if only a signal may end it. Else one for which a signal waits sleeps until now, so that the signal ends it (io_uring_enter(2), EINTR), before time moves on, or nothing is waited for
abbrev pub wait_of : WakeSources → Bool → (now : ℕ) → Option ℕ → Wait
wait_of sources has_timeouts now until =
    if sources.has_streams || sources.has_threads && not has_timeouts || sources.is_real then Sleep until else
    if sources.has_signal then Sleep (Some now) else
    at_once until

abbrev pub has_any : List Timeout → Bool
has_any [] = false
has_any (t ∷ rows) = true

-- until when a call waits that waits so long at most, and begins to wait after this log: after its submission
abbrev pub deadline : List Event → Option ℕ → Option ℕ
deadline log None = None
deadline log (Some more) = Some (later (time log) more)

-- how a call waits: no longer than to the earliest of its limit and of the times at which timeouts are over
abbrev pub IsWait : List Event → WakeSources → Option ℕ → Wait → Type 0
IsWait log sources limit wait =
    (until : Option ℕ) × IsEarliest (running log) limit until × (wait ≡ wait_of sources (has_any (running log)) (time log) until)

-- a limit is over, or isn't
abbrev pub IsReached : Option ℕ → ℕ → Type 0
IsReached None now = ⊥
IsReached (Some limit) now = limit ≤ now

-- what has come: the timeout that ends next, if its time is over; else the call's limit, if it is
abbrev pub IsWoken : List Event → Option ℕ → Woken → Type 0
IsWoken log limit (Over t) = IsNext (running log) t × (is_over log t ≡ true)
IsWoken log limit TimedOut = NoneIsOver log × IsReached limit (time log)
IsWoken log limit Other = NoneIsOver log × (IsReached limit (time log) → ⊥)

abbrev pub IsPassingBy : Bool → Bool → List Event → Option Timeout → Type 0
IsPassingBy true has_streams log result = IsDueOf log result
IsPassingBy false true log result = result ≡ None
IsPassingBy false false log result = IsNextOf (running log) result

-- who is to end where nothing else can go on and nobody waits: where time passes by itself one that is over, else the next, unless a descriptor is waited for
abbrev pub IsPassing : List Event → WakeSources → Option Timeout → Type 0
IsPassing log sources result = IsPassingBy sources.is_real sources.has_streams log result

-- the same as functions of who ends next; glue
abbrev pub woken_of : Option Timeout → Option ℕ → ℕ → Woken
woken_of (Some t) limit now = Over t
woken_of None None now = Other
woken_of None (Some limit) now = if nat_le limit now then TimedOut else Other

abbrev pub passing_of : WakeSources → ℕ → Option Timeout → Option Timeout
passing_of sources now next =
    if sources.is_real then due_of now next else
    if sources.has_streams then None else next
