-- What becomes of a request that an update changes, or that a cancel waits for, by what has happened to it, the newest first.
use Rattle.std.specs.Prelude.{◌≡◌, ℕ, Bool, true, false, not, ◌&&◌, nat_lt, List, ◌∷◌, if◌then◌else◌}
use Rattle.uring_operations.specs.declared.requests.act.Fact.{Fact}
use Rattle.uring_operations.specs.declared.requests.afresh.Awaited.{Awaited}
use Rattle.uring_operations.specs.declared.requests.afresh.Changing.{Changing}
use Rattle.uring_operations.specs.declared.requests.afresh.Awaited.TheVariants.{NotAwaited, Runs, Waits}
use Rattle.uring_operations.specs.declared.requests.act.Fact.TheVariants.{Started}
use Rattle.uring_operations.specs.Requests.Courses.{has_started, has_ended, is_cancelled, is_tried, act, is_ending}

-- a poll that runs is begun afresh by its update: so what is there already is told, and of one that goes on told again. io_uring_enter(2), IORING_OP_POLL_REMOVE; what Linux 6.18 was seen to do
abbrev pub begins_afresh : List Fact → Bool
begins_afresh log = has_started log && not (has_ended log)

pub data ChangingStep : Type 0 where
  Rouses : ChangingStep
  Delists : ChangingStep
  Changes : ChangingStep
  Unwatches : ChangingStep
  AsksEvents : ChangingStep
  Looks : ChangingStep

-- the place of a step among those of one update: they are done by rising places
abbrev pub place : ChangingStep → ℕ
place Rouses = 0
place Delists = 1
place Changes = 2
place Unwatches = 3
place AsksEvents = 4
place Looks = 5

abbrev pub is_done : Changing → ChangingStep → Bool
is_done s Rouses = s.rouses
is_done s Delists = s.delists
is_done s Changes = s.changes
is_done s Unwatches = s.unwatches
is_done s AsksEvents = s.asks_events
is_done s Looks = s.looks

-- any poll that is updated is dormant no more, no instance of the ring's has it for its old events, and it gets the new ones, or other user data. One that is begun afresh is watched no more by the instance that was asked for its old events, since another may get the number of that; then it asks for the new ones, and its descriptor is looked at. The order is our own rule: a kernel does all of it in one moment
abbrev pub changing_by : (begins_afresh : Bool) → Changing
changing_by begins_afresh = record {
  rouses = true;
  delists = true;
  changes = true;
  unwatches = begins_afresh;
  asks_events = begins_afresh;
  looks = begins_afresh;
}

abbrev pub at_update : List Fact → Changing
at_update log = changing_by (begins_afresh log)

-- whether a step that is done comes before another
abbrev pub comes_before : Changing → ChangingStep → ChangingStep → Bool
comes_before s first second = is_done s first && is_done s second && nat_lt (place first) (place second)

-- a poll that is begun afresh asks for the events that it has got: what told of its old ones is gone by then, and its descriptor is looked at after
abbrev pub AsksWhatWasChanged : Type 0
AsksWhatWasChanged = (begins_afresh : Bool) → is_done (changing_by begins_afresh) AsksEvents ≡ true
    → (comes_before (changing_by begins_afresh) Delists Changes ≡ true)
    × (comes_before (changing_by begins_afresh) Changes AsksEvents ≡ true)
    × (comes_before (changing_by begins_afresh) Unwatches AsksEvents ≡ true)
    × (comes_before (changing_by begins_afresh) AsksEvents Looks ≡ true)

-- a cancel by io_uring_register(2) waits for the requests that a cancel has found, and that haven't ended: IORING_REGISTER_SYNC_CANCEL. One that hasn't started starts first, and so ends too, if the core lets it start; the kernel waits for none that waits after others
abbrev pub awaited : List Fact → (may_start : Bool) → Awaited
awaited log may_start =
    if has_ended log then NotAwaited else
    if not (is_cancelled log) then NotAwaited else
    if has_started log then Runs else
    if may_start then Waits else NotAwaited

-- whether the core is asked if it lets the request start
abbrev pub asks_start : List Fact → Bool
asks_start log = is_cancelled log && not (has_started log) && not (has_ended log)

-- where it isn't asked, it doesn't matter
abbrev pub AsksForTheStart : Type 0
AsksForTheStart = (log : List Fact) → asks_start log ≡ false → awaited log true ≡ awaited log false

-- a request that such a cancel waits for, and that isn't being carried out, ends the moment that it goes on; one that hasn't started, the moment that it has. So no time passes until all have ended, and the cancel's time limit isn't over before, however short it is: it isn't looked at. IORING_REGISTER_SYNC_CANCEL
abbrev pub EndsAtOnce : Type 0
EndsAtOnce = (log : List Fact) (may_start : Bool) → is_tried log ≡ false
    → (awaited log may_start ≡ Runs → is_ending (act log) ≡ true)
    × (awaited log may_start ≡ Waits → is_ending (act (Started ∷ log)) ≡ true)
