-- What holds of the completions that every ring shows, whatever happens. io_uring(7), Reading completion events.
use Rattle.std.specs.Prelude.{◌≡◌, ℕ, ◌+◌, ◌%◌, ◌^◌, ◌<◌, ◌≤◌, List, [], ◌∷◌}
use Rattle.uring_enter.specs.Completions.Showing.{Change, Posted, Written, Reaped, posted, written, reaped}

-- a run on a ring of so many entries: a completion is stored only if it was posted and there is room, and reaped only if it was stored
abbrev pub IsShowing : ℕ → List Change → Type 0
IsShowing entries [] = Unit {0}
IsShowing entries (Posted ∷ earlier) = IsShowing entries earlier
IsShowing entries (Written ∷ earlier) =
    IsShowing entries earlier × (written earlier < posted earlier) × (written earlier < reaped earlier + entries)
IsShowing entries (Reaped count ∷ earlier) =
    IsShowing entries earlier × (reaped earlier + count ≤ written earlier)

-- what is reaped was shown, what is shown was posted, and no more is shown at once than the ring has entries
abbrev pub ShowsWhatWasPosted : Type 0
ShowsWhatWasPosted = (entries : ℕ) (log : List Change) → IsShowing entries log
    → (reaped log ≤ written log) × (written log ≤ posted log) × (written log ≤ reaped log + entries)

-- completions that stand in the ring at once have cells of their own, where its size is a power of two
abbrev pub StandsApart : Type 0
StandsApart = (k : ℕ) (log : List Change) (one other : ℕ) → k ≤ 32 → IsShowing (2 ^ k) log
    → reaped log ≤ one → one < other → other < written log
    → one % 2 ^ 32 % 2 ^ k ≡ other % 2 ^ 32 % 2 ^ k → ⊥
