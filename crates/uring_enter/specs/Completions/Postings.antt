-- Which completions were posted and aren't reaped, with the results that the application sees, by what has happened so far, the newest first. io_uring(7), Reading completion events, but where our own rule is named.
use Rattle.std.specs.Prelude.{◌≡◌, ℕ, ℤ, ◌≤◌, Bool, true, false, ◌&&◌, ◌==◌, nat_lt, length, take, drop, Option, Some, None, List, [], ◌∷◌, ◌++◌}
use Rattle.std.specs.Ordering.{int_eq}
use Rattle.uring_enter.specs.declared.completions.posted.Posted.{Posted}
use Rattle.uring_enter.specs.declared.completions.posted.Completion.{Completion}

pub data Posting : Type 0 where
  -- a request has ended, with this shown of it if the core posted its completion; and that completion, if it did
  Ended : Posted → Option Completion → Posting
  -- so many completions, the oldest, were reaped
  Reaped : ℕ → Posting

-- the core's completion is the one of this end: its user data, and the result that the core was told
abbrev pub is_of : Posted → Completion → Bool
is_of end c = c.user_data == end.token && int_eq c.res end.told

abbrev pub posts : Option Completion → Bool
posts None = false
posts (Some _) = true

-- an end shows the result of its request
abbrev pub with_res : Option ℤ → Posted → Posted
with_res None end = end
with_res (Some res) end = record end { res = res }

abbrev pub taken_by : Posted → Option Completion → ℕ → ℕ → Bool
taken_by end None count room = true
taken_by end (Some c) count room = is_of end c && nat_lt count room

-- an end is taken if its request has ended, and of a completion of the core's if it is this request's, and there is room. Our own rule
abbrev pub is_taken : Option ℤ → Posted → Option Completion → ℕ → ℕ → Bool
is_taken None end last count room = false
is_taken (Some res) end last count room = taken_by end last count room

-- what the application is shown, or is to be: each end whose completion the core posted, but those that were reaped, the oldest first
abbrev pub unreaped : List Posting → List Posted
unreaped [] = []
unreaped (Ended end (Some _) ∷ earlier) = unreaped earlier ++ end ∷ []
unreaped (Ended end None ∷ earlier) = unreaped earlier
unreaped (Reaped count ∷ earlier) = drop count (unreaped earlier)

-- glue: the first rows are those of a ring to which this has happened
pub record KeepsPosted (log : List Posting) (count : ℕ) (rows : List Posted) : Type 0 where
  pub within : count ≤ length rows
  pub first : take count rows ≡ unreaped log
