-- What a ring looks out for, by what has happened to it, the newest first: which of the requests that run are looked at again, whether what was written to pipes may be its own, and whether threads that sleep on it are woken. Our own rules: a request is looked at again once something has happened that can let it be finished. Requests that run stand by rising number, from place 0.
use Rattle.std.specs.Prelude.{◌≡◌, ℕ, ◌+◌, ◌-◌, ◌<◌, min, Bool, true, false, not, ◌&&◌, ◌||◌, ◌==◌, nat_lt, ◌⊎◌, List, [], ◌∷◌, ◌++◌, if◌then◌else◌}
use Rattle.uring_operations.specs.declared.entries.needs.Needs.{Needs}
use Rattle.uring_operations.specs.declared.requests.ready.RequestStanding.{RequestStanding}
use Rattle.uring_operations.specs.declared.requests.ready.Moment.{Moment}
use Rattle.uring_enter.specs.declared.waiting.lookout.EndOfOne.{EndOfOne}
use Rattle.uring_enter.specs.declared.waiting.lookout.Lookout.{Lookout}
use Rattle.uring_operations.specs.Requests.Readiness.{can_finish}
use Rattle.uring_enter.specs.TakingUp.Drainings as drains
use Rattle.uring_enter.specs.TakingUp.Drainings.{Drainage}

pub data Happening : Type 0 where
  -- the request at this place was looked at, and can't be finished
  Found : ℕ → Happening
  -- one has started, and stands at this place from now on
  Started : ℕ → Happening
  -- the one at this place runs no more
  Left : ℕ → Happening
  -- a cancel has found the one at this place
  Touched : ℕ → Happening
  -- an update has changed the one at this place, which was asked again then: it can be finished, or it waits
  Updated : ℕ → (finishes : Bool) → Happening
  -- one was carried out, and would have waited
  Waited : Happening
  -- an operation was carried out that can make a descriptor ready
  Moved : Happening
  -- a poll has heard of a write to its pipe
  Told : Happening
  -- what was written to pipes was heard, as a call began or slept no longer
  Heard : Happening
  -- a call begins, or sleeps no longer: what others have done counts
  Opened : Happening
  -- one has ended
  Ended : EndOfOne → Happening
  -- something else has changed for which a thread may sleep: entries were taken, or completions have come into the ring
  Changed : Happening
  -- the threads that sleep were woken
  Woke : Happening

-- whether one would have waited, and isn't to be carried out again yet: none has ended since, no call has begun, and none has slept
abbrev pub have_to_wait : List Happening → Bool
have_to_wait [] = false
have_to_wait (Waited ∷ earlier) = true
have_to_wait (Opened ∷ earlier) = false
have_to_wait (Ended end ∷ earlier) = false
have_to_wait (_ ∷ earlier) = have_to_wait earlier

-- whether an end can let others be finished: a count is reached, drains were outstanding, or one had to wait for an end
abbrev pub lets_others : List Happening → EndOfOne → Bool
lets_others earlier end = end.is_count_reached || end.has_drains || have_to_wait earlier

-- whether the request at a place is known to wait: it was found so, and nothing has happened since that can have changed it
abbrev pub waits : List Happening → ℕ → Bool
waits [] place = false
waits (Found at ∷ earlier) place = place == at || waits earlier place
waits (Started at ∷ earlier) place =
    if nat_lt place at then waits earlier place else
    if place == at then false else waits earlier (place - 1)
waits (Left at ∷ earlier) place = if nat_lt place at then waits earlier place else waits earlier (place + 1)
waits (Touched at ∷ earlier) place = not (place == at) && waits earlier place
waits (Updated at finishes ∷ earlier) place = if place == at then not finishes else waits earlier place
waits (Moved ∷ earlier) place = false
waits (Told ∷ earlier) place = false
waits (Opened ∷ earlier) place = false
waits (Ended end ∷ earlier) place = not (lets_others earlier end) && waits earlier place
waits (_ ∷ earlier) place = waits earlier place

-- how many of the first ones are passed over: one more for each that is looked at, in their turn; of those that have been, only those before one that starts, leaves, is touched, or can be finished after an update; and none after what can have changed any
abbrev pub passed : List Happening → ℕ
passed [] = 0
passed (Found _ ∷ earlier) = passed earlier + 1
passed (Started at ∷ earlier) = min (passed earlier) at
passed (Left at ∷ earlier) = min (passed earlier) at
passed (Touched at ∷ earlier) = min (passed earlier) at
passed (Updated at finishes ∷ earlier) = if finishes then min (passed earlier) at else passed earlier
passed (Moved ∷ earlier) = 0
passed (Told ∷ earlier) = 0
passed (Opened ∷ earlier) = 0
passed (Ended end ∷ earlier) = if lets_others earlier end then 0 else passed earlier
passed (_ ∷ earlier) = passed earlier

-- whether something happens after which none is passed over, whatever was found of it before
abbrev pub renews : List Happening → Happening → Bool
renews earlier Moved = true
renews earlier Told = true
renews earlier Opened = true
renews earlier (Ended end) = lets_others earlier end
renews earlier _ = false

-- how often such a thing has happened, from 1 on: after each a new round begins, in which every request is asked again
abbrev pub rounds : List Happening → ℕ
rounds [] = 1
rounds (h ∷ earlier) = if renews earlier h then rounds earlier + 1 else rounds earlier

-- whether those that had to wait are let go: one has ended, or a call begins or sleeps no longer
abbrev pub lets_go : Happening → Bool
lets_go Opened = true
lets_go (Ended end) = true
lets_go _ = false

-- how often they were, from 1 on
abbrev pub releases : List Happening → ℕ
releases [] = 1
releases (h ∷ earlier) = if lets_go h then releases earlier + 1 else releases earlier

-- whether a descriptor may become ready by it
abbrev pub makes_ready : Happening → Bool
makes_ready Moved = true
makes_ready Told = true
makes_ready Opened = true
makes_ready _ = false

-- how often one may have, from 1 on
abbrev pub moments : List Happening → ℕ
moments [] = 1
moments (h ∷ earlier) = if makes_ready h then moments earlier + 1 else moments earlier

-- whether what was written to a pipe since it was last heard may be what the ring's own requests have written
abbrev pub may_be_own : List Happening → Bool
may_be_own [] = false
may_be_own (Moved ∷ earlier) = true
may_be_own (Heard ∷ earlier) = false
may_be_own (_ ∷ earlier) = may_be_own earlier

-- whether something has changed for which a thread may sleep since those that sleep were last woken
abbrev pub has_changed : List Happening → Bool
has_changed [] = false
has_changed (Ended end ∷ earlier) = true
has_changed (Told ∷ earlier) = true
has_changed (Changed ∷ earlier) = true
has_changed (Woke ∷ earlier) = false
has_changed (_ ∷ earlier) = has_changed earlier

-- glue: what is kept is that of a ring to which this has happened; the first ones, as many as are passed over, are known to wait
pub record KeepsLookout (log : List Happening) (l : Lookout) : Type 0 where
  pub passed : l.count ≡ passed log
  pub waiting : (place : ℕ) → place < l.count → waits log place ≡ true
  pub have_to_wait : l.have_to_wait ≡ have_to_wait log
  pub moment : l.moment ≡ moments log
  pub round : l.round ≡ rounds log
  pub release : l.release ≡ releases log
  pub own : l.may_be_own ≡ may_be_own log
  pub changed : l.has_changed ≡ has_changed log

-- what becomes of a request that runs and of the moment, where another ends, which drains or doesn't, in a ring by Linux's rules or by the manual pages': which descriptors are ready is as before, since an end changes none; who has found a buffer has found one still; a completion may be posted as drains say, and whether there is memory for it is as before; and a count is reached that was before, or that this end has reached
pub record IsAfterEnd (log : List Happening) (drainages : List Drainage) (staged : ℕ) (linux has_memory is_draining : Bool) (end : EndOfOne)
    (had_to_wait : Bool) (before after : RequestStanding) (m l : Moment) : Type 0 where
  pub told : end.has_drains ≡ not (drains.outstanding drainages == 0)
  pub waits : had_to_wait ≡ true → have_to_wait log ≡ true
  pub stream : after.is_stream ≡ before.is_stream
  pub counted : l.has_counted ≡ true → (m.has_counted ≡ true) ⊎ (end.is_count_reached ≡ true)
  pub posted_before : m.may_post ≡ drains.may_post drainages staged linux has_memory
  pub posted_after : l.may_post ≡ drains.may_post (drains.Ended is_draining ∷ drainages) staged linux has_memory
  pub buffer : before.has_found_buffer || m.has_buffer ≡ true → after.has_found_buffer || l.has_buffer ≡ true
  pub ready : l.is_ready ≡ m.is_ready

-- an end that isn't told to let others be finished lets none: who couldn't be finished before can't be after it. So no request is passed over that could go on
abbrev pub EndLetsNone : Type 0
EndLetsNone = (log : List Happening) (drainages : List Drainage) (staged : ℕ) (linux has_memory is_draining : Bool) (end : EndOfOne)
    (had_to_wait has_to_wait : Bool) (before after : RequestStanding) (n : Needs) (is_cancelled : Bool) (m l : Moment)
    → IsAfterEnd log drainages staged linux has_memory is_draining end had_to_wait before after m l
    → lets_others log end ≡ false
    → can_finish before n had_to_wait is_cancelled m ≡ false
    → can_finish after n has_to_wait is_cancelled l ≡ false

-- whether a descriptor may have become ready
abbrev pub has_moved : List Happening → Bool
has_moved [] = false
has_moved (h ∷ earlier) = makes_ready h || has_moved earlier

-- a descriptor that was looked at and isn't looked at again can't have become ready since
abbrev pub LooksAfresh : Type 0
LooksAfresh = (newer earlier : List Happening) → moments (newer ++ earlier) ≡ moments earlier → has_moved newer ≡ false

-- whether threads that sleep were woken
abbrev pub has_woken : List Happening → Bool
has_woken [] = false
has_woken (Woke ∷ earlier) = true
has_woken (_ ∷ earlier) = has_woken earlier

-- no change is slept through: the next time that threads may be woken they are
abbrev pub WakesForEach : Type 0
WakesForEach = (newer earlier : List Happening) (one : Happening) → has_changed (one ∷ []) ≡ true → has_woken newer ≡ false
    → has_changed (newer ++ one ∷ earlier) ≡ true

-- whether what was written to pipes was heard
abbrev pub has_heard : List Happening → Bool
has_heard [] = false
has_heard (Heard ∷ earlier) = true
has_heard (_ ∷ earlier) = has_heard earlier

-- after an operation that was carried out, what was written may be the ring's own until it was heard
abbrev pub TakesItsOwn : Type 0
TakesItsOwn = (newer earlier : List Happening) → has_heard newer ≡ false → may_be_own (newer ++ Moved ∷ earlier) ≡ true
