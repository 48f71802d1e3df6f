-- What holds of the completions of every ring, whatever happens. io_uring(7), Reading completion events.
use Rattle.std.specs.Prelude.{◌≡◌, ℕ, ◌+◌, ◌≤◌, true, length, map, drop, Some, None, List, [], ◌∷◌, ◌++◌}
use Rattle.uring_enter.specs.declared.completions.posted.Posted.{Posted}
use Rattle.uring_enter.specs.declared.completions.posted.Completion.{Completion}
use Rattle.uring_enter.specs.Completions.Postings.{Posting, Ended, Reaped, is_of, unreaped}

-- a run: a completion of the core's is that of the end beside it, and no more are reaped than there are
abbrev pub IsPosting : List Posting → Type 0
IsPosting [] = Unit {0}
IsPosting (Ended end None ∷ earlier) = IsPosting earlier
IsPosting (Ended end (Some c) ∷ earlier) = IsPosting earlier × (is_of end c ≡ true)
IsPosting (Reaped count ∷ earlier) = IsPosting earlier × (count ≤ length (unreaped earlier))

-- the core's completions that aren't reaped
abbrev pub cores : List Posting → List Completion
cores [] = []
cores (Ended end None ∷ earlier) = cores earlier
cores (Ended end (Some c) ∷ earlier) = cores earlier ++ c ∷ []
cores (Reaped count ∷ earlier) = drop count (cores earlier)

-- what the core knows of an end
abbrev pub core_of : Posted → Completion
core_of end = record { user_data = end.token; res = end.told }

-- what is shown is the core's completions, one for one and in their order
abbrev pub ShowsTheCores : Type 0
ShowsTheCores = (log : List Posting) → IsPosting log → map core_of (unreaped log) ≡ cores log

-- all ends whose completion the core posted, the oldest first
abbrev pub all : List Posting → List Posted
all [] = []
all (Ended end None ∷ earlier) = all earlier
all (Ended end (Some c) ∷ earlier) = all earlier ++ end ∷ []
all (Reaped count ∷ earlier) = all earlier

-- how many were reaped
abbrev pub gone : List Posting → ℕ
gone [] = 0
gone (Ended end last ∷ earlier) = gone earlier
gone (Reaped count ∷ earlier) = gone earlier + count

-- each is shown until it is reaped, and never again: what isn't reaped is all that were posted but the oldest, as many as were reaped
abbrev pub ShowsEachOnce : Type 0
ShowsEachOnce = (log : List Posting) → IsPosting log → unreaped log ≡ drop (gone log) (all log)
