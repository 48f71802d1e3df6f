-- Which completions come only after a timeout of the same submission has started, though they were posted before. io_uring_enter(2), IORING_OP_TIMEOUT: a count is of what completes after the timeout was issued; but what Linux 6.18 does where it is named.
use Rattle.std.specs.Prelude.{◌≡◌, ℕ, ◌+◌, ◌-◌, ◌^◌, Bool, not, ◌||◌, ◌==◌, nat_lt, min, List, [], ◌∷◌, if◌then◌else◌}
use Rattle.uring_enter.specs.declared.time.held.Held.{Held}

-- a completion was posted of the end of the request of this number, or at once, as an event or a message is
pub data Posting : Type 0 where
  OfEnd : ℕ → Posting
  AtOnce : ℕ → Posting

-- how many completions were posted by ends of requests from this number on
abbrev pub held : (first : ℕ) → List Posting → ℕ
held first [] = 0
held first (OfEnd number ∷ earlier) = if nat_lt number first then held first earlier else min (held first earlier + 1) (2 ^ 64 - 1)
held first (AtOnce number ∷ earlier) = held first earlier

-- how many of these a timeout counts that starts now, of the submission whose first request has this number: all, since a kernel posts what ends in a submission as that ends. But none, where it is issued late, after a link or a drain, which a kernel does after that; nor where it is of an earlier submission: our own rule
abbrev pub held_for : (first : ℕ) → List Posting → (number : ℕ) → (is_late : Bool) → ℕ
held_for first log number is_late = if nat_lt number first || is_late then 0 else held first log

-- whether a kernel posts a completion as it comes that a request of this operation has before its end: but that a poll (6) has an event, and that bytes were sent without copies (47, 48). What Linux 6.18 does
abbrev pub is_at_once : (code : ℕ) → Bool
is_at_once code = not (code == 6 || code == 47 || code == 48)

-- glue: the value is of the submission whose first request has this number, since when this has happened, the newest first
pub record KeepsHeld (from : ℕ) (log : List Posting) (x : Held) : Type 0 where
  pub first : x.first ≡ from
  pub count : x.count ≡ held from log
