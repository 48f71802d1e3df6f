-- Which completions the application is shown in ring memory, and which it has reaped, by what has happened so far, the newest first. Completions count from 0, in the order in which they were posted. io_uring(7), Reading completion events; io_uring_setup(2), the flags of the submission ring; but where our own rule is named.
use Rattle.std.specs.Prelude.{◌≡◌, ℕ, ◌+◌, ◌-◌, ◌%◌, ◌^◌, ◌<◌, ◌≤◌, Bool, not, ◌&&◌, ◌||◌, ◌==◌, nat_lt, nat_le, Option, Some, None, List, [], ◌∷◌, if◌then◌else◌}
use Rattle.uring_enter.specs.declared.completions.showing.Store.{Store}
use Rattle.uring_enter.specs.declared.completions.showing.Store.TheVariants.{Cell, Tail}
use Rattle.uring_enter.specs.declared.completions.showing.Shown.{Shown}

pub data Change : Type 0 where
  -- a completion was posted
  Posted : Change
  -- the oldest that didn't stand in the ring was stored into its cell
  Written : Change
  -- so many more were reaped
  Reaped : ℕ → Change

abbrev pub posted : List Change → ℕ
posted [] = 0
posted (Posted ∷ earlier) = posted earlier + 1
posted (_ ∷ earlier) = posted earlier

abbrev pub written : List Change → ℕ
written [] = 0
written (Written ∷ earlier) = written earlier + 1
written (_ ∷ earlier) = written earlier

abbrev pub reaped : List Change → ℕ
reaped [] = 0
reaped (Reaped count ∷ earlier) = reaped earlier + count
reaped (_ ∷ earlier) = reaped earlier

-- the count that the word of a head or a tail tells: it is no less than what was reaped, and less than 2^32 more
abbrev pub IsTold : List Change → ℕ → ℕ → Type 0
IsTold log word n = (n % 2 ^ 32 ≡ word) × (reaped log ≤ n) × (n < reaped log + 2 ^ 32)

-- what is stored next, where the application is to see so many: the next completion into the cell of its position, and the tail only once all of them stand there
abbrev pub store_of : List Change → ℕ → Store
store_of log n =
    if nat_lt (written log) n then Cell (written log - reaped log) (written log % 2 ^ 32)
    else Tail (written log % 2 ^ 32)

abbrev pub after_store : List Change → ℕ → List Change
after_store log n = if nat_lt (written log) n then Written ∷ log else log

-- how many more were reaped, by a head that tells this count; none, if it is past the tail
abbrev pub heard_of : List Change → ℕ → Option ℕ
heard_of log n = if nat_le n (written log) then Some (n - reaped log) else None

-- how many stand in the ring beyond those that a head of this count has reaped. io_uring(7), Reading completion events
abbrev pub ready : List Change → ℕ → ℕ
ready log n = written log - n

-- some were posted that don't stand in the ring. IORING_SQ_CQ_OVERFLOW
abbrev pub overflows : List Change → Bool
overflows log = nat_lt (written log) (posted log)

-- whether the dispatcher loads the head, once so many were reaped: where some have overflowed, if they are asked for and there is room. io_uring_enter(2), IORING_ENTER_GETEVENTS; else our own rule
abbrev pub loads_head : List Change → ℕ → Bool → ℕ → Bool
loads_head log count is_asked entries =
    if overflows log then is_asked && nat_lt (written log - reaped log) entries else nat_lt 0 count

-- whether a call may bring something: a request hasn't ended, or the descriptor is readable, which it stays until a call. So a peek that finds nothing calls. io_uring_setup(2), IORING_SQ_TASKRUN; else our own rule
abbrev pub may_bring : ℕ → Bool → Bool
may_bring outstanding is_readable = nat_lt 0 outstanding || is_readable

-- IORING_SQ_NEED_WAKEUP is 1, IORING_SQ_CQ_OVERFLOW 2, IORING_SQ_TASKRUN 4
abbrev pub flags_of : Bool → Bool → Bool → ℕ
flags_of overflowed may_bring has_thread =
    (if has_thread then 1 else 0) + (if overflowed then 2 else 0) + (if may_bring then 4 else 0)

-- completions wait for the application, whose head tells this count: it isn't at the tail, or some don't stand in the ring
abbrev pub waits : List Change → ℕ → Bool
waits log n = not (n == written log) || overflows log

-- glue: what is kept is that of a ring to which this has happened
pub record KeepsShown (log : List Change) (x : Shown) : Type 0 where
  pub head : x.head ≡ reaped log % 2 ^ 32
  pub shown : reaped log + x.shown ≡ written log
  pub ordered : written log ≤ posted log
  pub posted : reaped log + x.posted ≡ posted log
