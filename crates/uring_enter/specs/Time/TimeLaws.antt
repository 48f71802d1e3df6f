-- What holds of the timeouts of every ring, whatever happens. io_uring_enter(2), IORING_OP_TIMEOUT, but where our own rule is named.
use Rattle.std.specs.Prelude.{◌≡◌, ℕ, ◌≤◌, Bool, true, false, ◌||◌, ◌==◌, ◌⊎◌, IsSome, List, [], ◌∷◌, ◌++◌, Contains}
use Rattle.uring_operations.specs.declared.entries.timeout.Timeout.{Timeout}
use Rattle.uring_operations.specs.Entries.Timeouts.{Event, later, time, posted, enough_after, running, IsNext, outcome, has_counted, AreApart}
use Rattle.uring_operations.specs.Entries.Timeouts.{Started, Changed, Clock, Slept, Passed, Ended}

-- a run: a number isn't started again while it runs; time is let pass only until the one is over that ends next; and only one ends that runs, and whose count is reached or whose time is over
abbrev pub IsRun : List Event → Type 0
IsRun [] = Unit {0}
IsRun (Started s ∷ earlier) =
    IsRun earlier × ((t : Timeout) → Contains (running earlier) t → t.number ≡ s.number → ⊥)
IsRun (Passed t ∷ earlier) = IsRun earlier × IsNext (running earlier) t
IsRun (Ended t ∷ earlier) = IsRun earlier × Contains (running earlier) t × IsSome (outcome earlier t)
IsRun (_ ∷ earlier) = IsRun earlier

-- time never goes back
abbrev pub NeverGoesBack : Type 0
NeverGoesBack = (log : List Event) (event : Event) → time log ≤ time (event ∷ log)

-- a timeout was given its time and its count: when it started, or when its time was changed
abbrev pub WasGiven : List Event → Timeout → Type 0
WasGiven [] t = ⊥
WasGiven (Started s ∷ earlier) t =
    ((t.number ≡ s.number) × (t.expiry ≡ later (time earlier) s.more)
    × (t.enough ≡ enough_after (posted earlier) s.count))
    ⊎ WasGiven earlier t
WasGiven (Changed number more ∷ earlier) t =
    ((t.number ≡ number) × (t.expiry ≡ later (time earlier) more) × (t.enough ≡ 0))
    ⊎ WasGiven earlier t
WasGiven (_ ∷ earlier) t = WasGiven earlier t

-- none ends before its time or its count
abbrev pub EndsInTime : Type 0
EndsInTime = (log : List Event) (t : Timeout) → IsRun (Ended t ∷ log)
    → WasGiven log t × ((has_counted log t ≡ true) ⊎ (t.expiry ≤ time log))

-- whether a number is started
abbrev pub starts : ℕ → List Event → Bool
starts number [] = false
starts number (Started s ∷ earlier) = s.number == number || starts number earlier
starts number (_ ∷ earlier) = starts number earlier

-- each ends once: it runs no more, unless its number is started again
abbrev pub EndsOnce : Type 0
EndsOnce = (newer earlier : List Event) (t u : Timeout) → starts t.number newer ≡ false
    → Contains (running (newer ++ Ended t ∷ earlier)) u → u.number ≡ t.number → ⊥

-- none other ends with it
abbrev pub EndsAlone : Type 0
EndsAlone = (log : List Event) (t u : Timeout) → Contains (running log) u → (u.number ≡ t.number → ⊥)
    → Contains (running (Ended t ∷ log)) u

-- no two that run have the same number
abbrev pub RunsApart : Type 0
RunsApart = (log : List Event) → IsRun log → AreApart (running log)

-- only timeouts let time pass: no clock, no sleep and no limit of a call
abbrev pub is_virtual : List Event → Bool
is_virtual [] = true
is_virtual (Clock _ ∷ earlier) = false
is_virtual (Slept _ _ ∷ earlier) = false
is_virtual (_ ∷ earlier) = is_virtual earlier

-- where only timeouts let time pass, it never passes one over: those that run are over now at the earliest. So they end in their order. Our own rule
abbrev pub PassesNoneOver : Type 0
PassesNoneOver = (log : List Event) → IsRun log → is_virtual log ≡ true
    → (t : Timeout) → Contains (running log) t → time log ≤ t.expiry
