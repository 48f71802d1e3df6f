-- In which order the requests end that a cancel by io_uring_register(2) waits for, by which were looked at, the last first. Requests have numbers in the order in which they were accepted. IORING_REGISTER_SYNC_CANCEL says that it waits for all; the order is our own rule.
use Rattle.std.specs.Prelude.{◌≡◌, ℕ, ◌+◌, ◌<◌, Bool, true, false, not, ◌&&◌, ◌||◌, ◌==◌, nat_le, List, [], ◌∷◌}
use Rattle.uring_operations.specs.declared.requests.afresh.Awaited.{Awaited}
use Rattle.uring_operations.specs.declared.requests.afresh.Awaited.TheVariants.{NotAwaited}
use Rattle.uring_enter.specs.declared.cancels.awaiting.Awaiting.{Awaiting}

pub data Look : Type 0 where
  -- the request of this number was looked at, and is waited for or isn't
  HasSeen : ℕ → Awaited → Look
  -- it has ended
  HasEnded : Look

abbrev pub is_waited_for : Awaited → Bool
is_waited_for NotAwaited = false
is_waited_for _ = true

-- the number after that of the last one
abbrev pub next_of : List Look → ℕ
next_of [] = 0
next_of (HasSeen number _ ∷ earlier) = number + 1
next_of (HasEnded ∷ earlier) = next_of earlier

-- one is waited for, and hasn't ended
abbrev pub is_open : List Look → Bool
is_open [] = false
is_open (HasSeen _ awaited ∷ earlier) = is_waited_for awaited
is_open (HasEnded ∷ earlier) = false

-- whether the request of this number is looked at: it was accepted after those that were, and none of these is waited for that hasn't ended. So they end by rising numbers, one after the other
abbrev pub may_see : List Look → ℕ → Bool
may_see log number = not (is_open log) && nat_le (next_of log) number

-- each was looked at in its turn
abbrev pub is_run : List Look → Bool
is_run [] = true
is_run (HasSeen number _ ∷ earlier) = may_see earlier number && is_run earlier
is_run (HasEnded ∷ earlier) = is_run earlier

-- whether the request of this number was looked at
abbrev pub was_seen : List Look → ℕ → Bool
was_seen [] one = false
was_seen (HasSeen number _ ∷ earlier) one = number == one || was_seen earlier one
was_seen (HasEnded ∷ earlier) one = was_seen earlier one

-- whoever is looked at next has a greater number than all that were, which have ended or aren't waited for: so no request ends before one that was accepted before it
abbrev pub EndsInOrder : Type 0
EndsInOrder = (log : List Look) (one next : ℕ) → is_run log ≡ true → was_seen log one ≡ true
    → may_see log next ≡ true → (one < next) × (is_open log ≡ false)

-- glue: what is kept is that of a cancel that has looked at these
pub record KeepsAwaiting (log : List Look) (a : Awaiting) : Type 0 where
  pub from : a.from ≡ next_of log
  pub awaited : a.is_awaited ≡ is_open log
