-- The time of a ring, and the timeouts that run on it, by what has happened so far, the newest first. io_uring_enter(2), IORING_OP_TIMEOUT, IORING_OP_LINK_TIMEOUT and IORING_OP_TIMEOUT_REMOVE, but where our own rule is named.
use Rattle.std.specs.Prelude.{◌≡◌, ℕ, ℤ, pos, negsuc, ◌+◌, ◌*◌, ◌-◌, ◌^◌, Bool, true, false, not, ◌&&◌, ◌||◌, ◌==◌, nat_lt, nat_le, ◌≤◌, ◌⊎◌, min, max, MatchOption, Option, Some, None, List, [], ◌∷◌, ◌++◌, map, filter, Contains, if◌then◌else◌}
use Rattle.uring_operations.specs.declared.entries.timeout.Start.{Start}
use Rattle.uring_operations.specs.declared.entries.timeout.Timeout.{Timeout}
use Rattle.uring_entry.specs.Errors.{error}

-- what happens to the timeouts of a ring
pub data Event : Type 0 where
  -- a timeout starts
  Started : Start → Event
  -- so many completions were posted
  Posted : ℕ → Event
  -- the time of the one of this number was changed: it is over so much later than now, and has no count any more
  Changed : ℕ → ℕ → Event
  -- the one of this number runs no more: it was cancelled or removed, or the request before it has ended
  Stopped : ℕ → Event
  -- a clock says that it is so late, or a call's own limit does
  Clock : ℕ → Event
  -- a call has slept from then to then, by a real clock
  Slept : ℕ → ℕ → Event
  -- nothing else can go on, and time passes until this one is over
  Passed : Timeout → Event
  -- this one has ended
  Ended : Timeout → Event

-- a time past the largest is the largest, 2^63 - 1 nanoseconds. Our own rule
abbrev pub later : ℕ → ℕ → ℕ
later time more = min (time + more) (2 ^ 63 - 1)

-- the nanoseconds of a time in seconds and nanoseconds, which is their sum, whichever is negative. A negative sum is none. From 9,223,372,036 seconds on it is the largest time, as the kernel has it, and a sum past the largest is the largest, which is our own rule
abbrev pub nanoseconds_of : ℤ → ℤ → ℕ
nanoseconds_of (negsuc _) (negsuc _) = 0
nanoseconds_of (negsuc less) (pos nanoseconds) = later (nanoseconds - (less + 1) * 1000000000) 0
nanoseconds_of (pos seconds) (negsuc less) =
    if nat_le 9223372036 seconds then 2 ^ 63 - 1 else later (seconds * 1000000000 - (less + 1)) 0
nanoseconds_of (pos seconds) (pos nanoseconds) =
    if nat_le 9223372036 seconds then 2 ^ 63 - 1 else later (seconds * 1000000000) nanoseconds

-- a count past the largest is the largest. Our own rule
abbrev pub counted : ℕ → ℕ → ℕ
counted count more = min (count + more) (2 ^ 64 - 1)

-- until when, by the real clock, it is known what was slept: what two calls slept at once counts once. Our own rule
abbrev pub slept_until : List Event → ℕ
slept_until [] = 0
slept_until (Slept start stop ∷ earlier) = max stop (slept_until earlier)
slept_until (_ ∷ earlier) = slept_until earlier

-- the ring's time: what the clock said, what was slept, and when a timeout was over that was let pass. It never goes back
abbrev pub time : List Event → ℕ
time [] = 0
time (Clock now ∷ earlier) = max now (time earlier)
time (Slept start stop ∷ earlier) = max (time earlier) (later (time earlier) (stop - max start (slept_until earlier)))
time (Passed t ∷ earlier) = max t.expiry (time earlier)
time (_ ∷ earlier) = time earlier

-- how many completions were posted
abbrev pub posted : List Event → ℕ
posted [] = 0
posted (Posted count ∷ earlier) = counted (posted earlier) count
posted (_ ∷ earlier) = posted earlier

abbrev pub expired_with : ℕ → Bool → ℕ
expired_with count is_linked = if is_linked then count else counted count 1

-- how many timeouts have ended by their time or their count, but linked ones
abbrev pub expired : List Event → ℕ
expired [] = 0
expired (Ended t ∷ earlier) = expired_with (expired earlier) t.is_linked
expired (_ ∷ earlier) = expired earlier

-- how many completions will have been posted in all when a count that starts now is reached; 0: there is no count
abbrev pub enough_after : ℕ → ℕ → ℕ
enough_after now count = if count == 0 then 0 else counted now count

-- a timeout that starts after this log
abbrev pub started : List Event → Start → Timeout
started log s = record {
  number = s.number;
  expiry = later (time log) s.more;
  enough = enough_after (posted log) s.count;
  is_linked = s.is_linked;
}

abbrev pub is_other : ℕ → Timeout → Bool
is_other number t = not (t.number == number)

abbrev pub with_expiry : ℕ → ℕ → Timeout → Timeout
with_expiry number expiry t = if t.number == number then record t { expiry = expiry; enough = 0 } else t

-- the timeouts that run, in the order in which they were started
abbrev pub running : List Event → List Timeout
running [] = []
running (Started s ∷ earlier) = running earlier ++ started earlier s ∷ []
running (Changed number more ∷ earlier) = map (with_expiry number (later (time earlier) more)) (running earlier)
running (Stopped number ∷ earlier) = filter (is_other number) (running earlier)
running (Ended t ∷ earlier) = filter (is_other t.number) (running earlier)
running (_ ∷ earlier) = running earlier

-- which of two ends before the other: the one that is over first, and of equal ones the one that was submitted first. Our own rule
abbrev pub ends_before : Timeout → Timeout → Bool
ends_before one other =
    nat_lt one.expiry other.expiry || one.expiry == other.expiry && nat_lt one.number other.number

-- who ends next by time: one of these, and none of them before it
abbrev pub IsNext : List Timeout → Timeout → Type 0
IsNext rows t = Contains rows t × ((u : Timeout) → Contains rows u → ends_before u t ≡ false)

-- who ends next, if any runs
abbrev pub IsNextOf : List Timeout → Option Timeout → Type 0
IsNextOf rows next = MatchOption next (rows ≡ []) (IsNext rows)

-- it has a count, which is reached by so many completions
abbrev pub is_reached_by : ℕ → Timeout → Bool
is_reached_by count t = nat_lt 0 t.enough && nat_le t.enough count

-- as many completions were posted as it counts
abbrev pub has_counted : List Event → Timeout → Bool
has_counted log t = is_reached_by (posted log) t

-- none of these has a count that is reached by so many completions
abbrev pub NoneIsReached : List Timeout → ℕ → Type 0
NoneIsReached rows count = (t : Timeout) → Contains rows t → is_reached_by count t ≡ false

-- a timeout is the first of these whose count is reached: none before it has one that is. Those that run stand in the order in which they started
pub record IsFirstReached (rows : List Timeout) (count : ℕ) (t : Timeout) : Type 0 where
  pub before : List Timeout
  pub after : List Timeout
  pub split : rows ≡ before ++ t ∷ after
  pub reached : is_reached_by count t ≡ true
  pub first : NoneIsReached before count

-- the first of these whose count is reached by so many completions, if any's is
abbrev pub IsReachedOf : List Timeout → ℕ → Option Timeout → Type 0
IsReachedOf rows count found = MatchOption found (NoneIsReached rows count) (IsFirstReached rows count)

-- its time is over
abbrev pub is_over : List Event → Timeout → Bool
is_over log t = nat_le t.expiry (time log)

-- how a timeout ends, if it does: with 0 if its count is reached, else with -62 (ETIME) if its time is over
abbrev pub outcome : List Event → Timeout → Option ℤ
outcome log t =
    if has_counted log t then Some (pos 0) else
    if is_over log t then Some (error 62) else None

-- how a linked timeout ends after its request: -62 (ETIME) if it has cancelled it, else -125 (ECANCELED)
abbrev pub linked_outcome : Bool → ℤ
linked_outcome has_cancelled = if has_cancelled then error 62 else error 125

-- whom a timeout cancels whose time is over: the request before it, if it is linked to one
abbrev pub cancelled_by : Timeout → Option ℕ
cancelled_by t = if t.is_linked then Some (t.number - 1) else None

-- whether it does: that runs, and is one that a cancel can end. Else that goes on to its own end, and the timeout has cancelled nothing, and ends with -125: Linux 6.18 was seen so of an open that a worker of the kernel's carries out, whose linked timeout never fires
abbrev pub fires : Timeout → Bool → Bool → Bool
fires t runs is_cancellable = t.is_linked && runs && is_cancellable

-- none of these has this number
abbrev pub HasNone : ℕ → List Timeout → Type 0
HasNone number rows = (t : Timeout) → Contains rows t → t.number ≡ number → ⊥

-- one of these that has this number
abbrev pub IsRow : ℕ → List Timeout → Timeout → Type 0
IsRow number rows t = Contains rows t × (t.number ≡ number)

-- the one of this number doesn't end now, or none runs
abbrev pub EndsNone : List Event → ℕ → Type 0
EndsNone log number = (t : Timeout) → IsRow number (running log) t → outcome log t ≡ None

-- no two that run have the same number
abbrev pub AreApart : List Timeout → Type 0
AreApart rows = (t u : Timeout) → Contains rows t → Contains rows u → t.number ≡ u.number → t ≡ u

-- none runs whose time is over
abbrev pub NoneIsOver : List Event → Type 0
NoneIsOver log = (t : Timeout) → Contains (running log) t → is_over log t ≡ true → ⊥

-- who ends next, if its time is over
abbrev pub IsDueOf : List Event → Option Timeout → Type 0
IsDueOf log result = MatchOption result (NoneIsOver log) (λ t. IsNext (running log) t × (is_over log t ≡ true))

-- no later than a limit, if there is one
abbrev pub IsBy : Option ℕ → ℕ → Type 0
IsBy None until = Unit {0}
IsBy (Some limit) until = until ≤ limit

-- the earliest of a limit and of the times at which these are over; none, if there is neither
abbrev pub IsEarliest : List Timeout → Option ℕ → Option ℕ → Type 0
IsEarliest rows limit result = MatchOption result
    ((limit ≡ None) × (rows ≡ []))
    (λ until. IsBy limit until × ((t : Timeout) → Contains rows t → until ≤ t.expiry)
    × ((limit ≡ Some until) ⊎ ((t : Timeout) × Contains rows t × (t.expiry ≡ until))))
