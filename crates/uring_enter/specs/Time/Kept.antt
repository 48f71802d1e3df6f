-- Glue: the time of a ring, and rows of timeouts, that have come so far.
use Rattle.std.specs.Prelude.{◌≡◌, ℕ, ◌≤◌, Bool, true, false, length, take, ℤ, pos, nat_le, min, List, Option, Some, None, if◌then◌else◌}
use Rattle.uring_entry.specs.Errors.{error}
use Rattle.uring_operations.specs.declared.entries.timeout.Timeout.{Timeout}
use Rattle.uring_enter.specs.declared.time.times.Times.{Times}
use Rattle.uring_operations.specs.Entries.Timeouts.{Event, time, slept_until, posted, expired, running, ends_before, has_counted, is_reached_by, IsRow}

-- the value and the first rows are those of a ring to which this has happened
pub record KeepsTime (log : List Event) (times : Times) (rows : List Timeout) : Type 0 where
  pub time : times.time ≡ time log
  pub slept_until : times.slept_until ≡ slept_until log
  pub posted : times.posted ≡ posted log
  pub expired : times.expired ≡ expired log
  pub within : times.count ≤ length rows
  pub running : take times.count rows ≡ running log

-- the one of two that ends first
abbrev pub nearer : Timeout → Option Timeout → Timeout
nearer row None = row
nearer row (Some next) = if ends_before row next then row else next

-- who ends next, if its time is over then
abbrev pub due_of : ℕ → Option Timeout → Option Timeout
due_of now None = None
due_of now (Some next) = if nat_le next.expiry now then Some next else None

-- the earlier of when the next one is over and of a limit
abbrev pub earliest_of : Option Timeout → Option ℕ → Option ℕ
earliest_of None limit = limit
earliest_of (Some next) None = Some next.expiry
earliest_of (Some next) (Some limit) = Some (min limit next.expiry)

-- how a timeout ends then
abbrev pub outcome_at : ℕ → ℕ → Timeout → Option ℤ
outcome_at posted now t =
    if is_reached_by posted t then Some (pos 0) else
    if nat_le t.expiry now then Some (error 62) else None

-- whether one ends by its count then
abbrev pub counted_found : ℕ → Option Timeout → Bool
counted_found posted None = false
counted_found posted (Some t) = is_reached_by posted t

-- the one of this number runs, and ends by its count now; or none of this number does
abbrev pub HasCounted : List Event → ℕ → Bool → Type 0
HasCounted log number true = (t : Timeout) × IsRow number (running log) t × (has_counted log t ≡ true)
HasCounted log number false = (t : Timeout) → IsRow number (running log) t → has_counted log t ≡ false
