-- What is known of a request that runs, by what has happened to it and to its ring, the newest first: whether it has to wait, whether it is asked if it can be finished, and whether its descriptor is ready. Our own rules, but where another is named.
use Rattle.std.specs.Prelude.{◌≡◌, ℕ, Bool, true, false, not, ◌&&◌, ◌||◌, List, [], ◌∷◌, if◌then◌else◌}
use Rattle.uring_operations.specs.declared.entries.needs.Needs.{Needs}
use Rattle.uring_enter.specs.declared.waiting.pipe_poll.PipePoll.{PipePoll}
use Rattle.uring_operations.specs.declared.requests.ready.Look.{Look}
use Rattle.uring_operations.specs.declared.requests.ready.Look.TheVariants as look
use Rattle.uring_operations.specs.declared.requests.ready.Moment.{Moment}
use Rattle.uring_operations.specs.declared.requests.ready.RequestStanding.{RequestStanding}
use Rattle.uring_enter.specs.declared.waiting.sighting.Sighting.{Sighting}
use Rattle.uring_enter.specs.declared.waiting.sighting.Sighting.TheVariants.{Ready, Unready, Unseen}
use Rattle.uring_enter.specs.declared.waiting.waiter.Waiter.{Waiter}
use Rattle.uring_enter.specs.Waiting.Lookouts.{Happening, Waited, Told, have_to_wait, lets_go, makes_ready, may_be_own, moments, releases, renews, rounds}
use Rattle.uring_enter.specs.Waiting.PipePolls as polls
use Rattle.uring_operations.specs.Requests.Readiness as ready

pub data Encounter : Type 0 where
  -- something has happened to its ring
  Around : Happening → Encounter
  -- it was asked whether it can be finished, and can't
  FoundWaiting : Encounter
  -- it was carried out, and would have waited
  WouldWait : Encounter
  -- a cancel has found it
  WasCancelled : Encounter
  -- an update has changed it
  WasUpdated : Encounter
  -- its descriptor was looked at, and was ready or not
  WasSeen : (is_ready : Bool) → Encounter
  -- a poll has heard of a write to its pipe, and what was written is there still, or gone
  HeardWrite : PipePoll → (is_there : Bool) → Encounter
  -- one that had heard of a write has found nothing, and its pipe has something all the same, or nothing
  MissedWrite : PipePoll → (is_there : Bool) → Encounter
  -- a poll was carried out, and has taken what there was
  Took : Encounter

-- what has happened to its ring
abbrev pub around : List Encounter → List Happening
around [] = []
around (Around h ∷ earlier) = h ∷ around earlier
around (WouldWait ∷ earlier) = Waited ∷ around earlier
around (HeardWrite p is_there ∷ earlier) = Told ∷ around earlier
around (_ ∷ earlier) = around earlier

-- whether it has to wait: it was carried out and would have waited, and nothing has ended since, no call has begun, and none has slept. A poll that was updated needn't, and one that has heard of a write needn't
abbrev pub has_to_wait : List Encounter → Bool
has_to_wait [] = false
has_to_wait (WouldWait ∷ earlier) = true
has_to_wait (WasUpdated ∷ earlier) = false
has_to_wait (HeardWrite p is_there ∷ earlier) = false
has_to_wait (Around h ∷ earlier) = not (lets_go h) && has_to_wait earlier
has_to_wait (_ ∷ earlier) = has_to_wait earlier

-- whether it is known to wait: it was found so, and since then no cancel has found it, no update has changed it, it has heard of no write, and nothing has happened to its ring after which none is passed over
abbrev pub is_known : List Encounter → Bool
is_known [] = false
is_known (FoundWaiting ∷ earlier) = true
is_known (WasCancelled ∷ earlier) = false
is_known (WasUpdated ∷ earlier) = false
is_known (HeardWrite p is_there ∷ earlier) = false
is_known (Around h ∷ earlier) = not (renews (around earlier) h) && is_known earlier
is_known (_ ∷ earlier) = is_known earlier

-- what is asked of it next, or whether it can be finished, by what it is and whether a cancel has found it. One that is known to wait isn't asked
abbrev pub look_of : List Encounter → RequestStanding → Needs → (is_cancelled : Bool) → Moment → Look
look_of log s n is_cancelled m =
    if is_known log then look.Waits else ready.look_of s n (has_to_wait log) is_cancelled m

-- what has happened after that
abbrev pub after_look : List Encounter → Look → List Encounter
after_look log look.Waits = FoundWaiting ∷ log
after_look log _ = log

-- whether its descriptor was looked at, and can't have become ready since
abbrev pub is_seen : List Encounter → Bool
is_seen [] = false
is_seen (WasSeen is_ready ∷ earlier) = true
is_seen (Took ∷ earlier) = true
is_seen (HeardWrite p is_there ∷ earlier) = false
is_seen (Around h ∷ earlier) = not (makes_ready h) && is_seen earlier
is_seen (_ ∷ earlier) = is_seen earlier

-- whether it was ready when it was looked at last. A poll that was carried out has taken what there was
abbrev pub was_ready : List Encounter → Bool
was_ready [] = false
was_ready (WasSeen is_ready ∷ earlier) = is_ready
was_ready (Took ∷ earlier) = false
was_ready (_ ∷ earlier) = was_ready earlier

-- whether a poll has heard of a write of which nobody knows yet what became of it: what was written was there then
abbrev pub has_heard : List Encounter → Bool
has_heard [] = false
has_heard (HeardWrite p is_there ∷ earlier) = is_there
has_heard (MissedWrite p is_there ∷ earlier) = false
has_heard (Took ∷ earlier) = false
has_heard (_ ∷ earlier) = has_heard earlier

-- whether it is told of a write, of which what was written is there still or gone
abbrev pub is_told_of : PipePoll → (is_there : Bool) → Bool
is_told_of p is_there = polls.is_told p p.watch is_there

-- whether a poll was told of a write: what was written was gone when it heard of it, or was missed later and is gone, unless the ring's own requests may have read it. What Linux 6.18 was seen to do: a poll is told in the moment of the write, also if another reads what was written at once
abbrev pub is_told : List Encounter → Bool
is_told [] = false
is_told (HeardWrite p is_there ∷ earlier) = is_told earlier || is_told_of p is_there
is_told (MissedWrite p is_there ∷ earlier) =
    is_told earlier || has_heard earlier && not (may_be_own (around earlier)) && is_told_of p is_there
is_told (Took ∷ earlier) = false
is_told (_ ∷ earlier) = is_told earlier

-- whether its descriptor is ready, as far as is known: one that was told is, whatever its descriptor says
abbrev pub sighting_of : List Encounter → Sighting
sighting_of log =
    if is_told log then Ready else
    if not (is_seen log) then Unseen else
    if was_ready log then Ready else Unready

-- glue: in which round it was found to wait, unless a cancel or an update has come since; 0: in none
abbrev pub found_in : List Encounter → ℕ
found_in [] = 0
found_in (FoundWaiting ∷ earlier) = rounds (around earlier)
found_in (WasCancelled ∷ earlier) = 0
found_in (WasUpdated ∷ earlier) = 0
found_in (_ ∷ earlier) = found_in earlier

-- glue: how often those that had to wait had been let go when it would have waited, unless it was updated or has heard of a write since; 0: it wouldn't
abbrev pub waited_in : List Encounter → ℕ
waited_in [] = 0
waited_in (WouldWait ∷ earlier) = releases (around earlier)
waited_in (WasUpdated ∷ earlier) = 0
waited_in (HeardWrite p is_there ∷ earlier) = 0
waited_in (_ ∷ earlier) = waited_in earlier

-- glue: the moment in which its descriptor was looked at last; 0: never
abbrev pub seen_in : List Encounter → ℕ
seen_in [] = 0
seen_in (WasSeen is_ready ∷ earlier) = moments (around earlier)
seen_in (Took ∷ earlier) = moments (around earlier)
seen_in (_ ∷ earlier) = seen_in earlier

-- glue: what is kept is that of a request to which this has happened
pub record KeepsWaiter (log : List Encounter) (w : Waiter) : Type 0 where
  pub found : w.found_in ≡ found_in log
  pub waited : w.waited_in ≡ waited_in log
  pub seen : w.seen_in ≡ seen_in log
  pub ready : w.was_ready ≡ was_ready log
  pub heard : w.has_heard ≡ has_heard log
  pub told : w.is_told ≡ is_told log

-- nothing need be noted of a request for what happens to its ring
abbrev pub KeepsThrough : Type 0
KeepsThrough = (log : List Encounter) (w : Waiter) (h : Happening) → KeepsWaiter log w → KeepsWaiter (Around h ∷ log) w

-- where one has to wait, its ring knows that one has: so no end passes it over
abbrev pub RingKnows : Type 0
RingKnows = (log : List Encounter) → has_to_wait log ≡ true → have_to_wait (around log) ≡ true
