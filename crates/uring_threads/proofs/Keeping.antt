-- What is kept stays in its place, so that events that were recorded stay as they are.
use Rattle.std.proofs.Common.{◌≡◌, ℕ, ◌+◌, ◌<◌, ◌≤◌, List, [], ◌∷◌, ◌++◌, length, refl, ap, arith, ◌∙◌, length-append}
use Rattle.uring_threads.proofs.Common.{All-push, AllByRecursion, Event, length-map, map-append, vec_capacity}
use Rattle.uring_threads.specs.declared.brief.Brief.{Brief}
use Rattle.uring_threads.specs.declared.brief.BriefAnswer.TheVariants as told
use Rattle.uring_threads.specs.declared.brief.BriefAnswer.{BriefAnswer}
use Rattle.uring_threads.specs.declared.store.Store.{Store}
use Rattle.uring_threads.specs.Events.{Events}
use Rattle.uring_threads.specs.Store.{step_of, answer_of, event_of, events_of, IsStepWithin, IsAnswerWithin, IsWithin, Stays, Goes, IsSame, HasRoom, AreStored}

-- Stores that grow.

-- an answer that was kept is the same
pub answer_stays : (s t : Store) (b : BriefAnswer) → Stays s t → IsAnswerWithin s b
    → (answer_of t b ≡ answer_of s b) × IsAnswerWithin t b
answer_stays s t (told.Entry place) stays within = (rw (stays.filled place within).0, (stays.filled place within).1)
answer_stays s t (told.Other place) stays within = (rw (stays.others place within).0, (stays.others place within).1)
answer_stays s t (told.Ended res place) stays within = (rw (stays.bytes place within).0, (stays.bytes place within).1)
answer_stays s t (told.Reaped res named place) stays within = (rw (stays.bytes place within).0, (stays.bytes place within).1)
answer_stays s t _ stays within = (refl, tt)

-- an event that was kept is the same
event_stays : (s t : Store) (b : Brief) → Stays s t → IsWithin s b
    → (event_of t b ≡ event_of s b) × IsWithin t b
event_stays s t b stays within = grind (arith, (answer_stays s t b.answer stays within.1))

-- Lists of events.

-- what is long in each is still kept, and the events are the same
all_stay : (s t : Store) (briefs : List Brief) → Stays s t → AllByRecursion (IsWithin s) briefs
    → (events_of t briefs ≡ events_of s briefs) × AllByRecursion (IsWithin t) briefs
all_stay s t [] stays all = (refl, tt)
all_stay s t (first ∷ later) stays all =
    let one = event_stays s t first stays all.0 in
    let rest = all_stay s t later stays all.1 in
    (λ i. one.0 i ∷ rest.0 i, (one.1, rest.1))

-- More memory.

-- the same events are kept
pub same_events : (s t : Store) (briefs now : List Brief) → IsSame s t
    → AllByRecursion (IsWithin s) briefs
    → now ≡ briefs
    → events_of t now ≡ events_of s briefs
same_events s t briefs now same all is = grind arith

-- there is room for more of them
pub more_room : (s t : Store) (briefs now : List Brief) (capacity more room count len : ℕ)
    → AreStored s briefs capacity room
    → IsSame s t
    → HasRoom t count
    → now ≡ briefs
    → len ≡ length now
    → length now + count ≤ more
    → AreStored t now more (len + count)
more_room s t briefs now capacity more room count len kept same has is many fits =
    let stays : Stays s t = grind arith in
    grind (arith, (all_stay s t briefs stays kept.within))

-- One event more.

-- its step was kept, and then its answer: what was kept before stays, and the store grew by one of each at most
pub record Grew (s u : Store) : Type 0 where
  pub stays : Stays s u
  pub filled : length u.filled.items ≤ length s.filled.items + 1
  pub others : length u.others.items ≤ length s.others.items + 1
  pub bytes : length u.bytes.items ≤ length s.bytes.items + 1
  pub filled_memory : vec_capacity u.filled ≡ vec_capacity s.filled
  pub others_memory : vec_capacity u.others ≡ vec_capacity s.others
  pub bytes_memory : vec_capacity u.bytes ≡ vec_capacity s.bytes

pub grew : (s t u : Store) → Goes s t → t ≡ record s { filled = t.filled } → Goes t u
    → u.filled ≡ t.filled
    → Grew s u
grew s t u one same other filled =
    let stays : Stays s u = record { filled = grind arith; others = grind arith; bytes = grind arith } in
    grind arith

-- what is long in the event is kept, and it is the event of this step and this answer
pub kept_event : (t u : Store) (b : Brief) (event : Event) → Goes t u → IsStepWithin t b.step
    → IsAnswerWithin u b.answer
    → step_of t b.step ≡ event.0
    → answer_of u b.answer ≡ event.1
    → IsWithin u b × (event_of u b ≡ event)
kept_event t u b event goes within told step answer = grind arith

-- there are fewer than there is room for
pub fewer : (s : Store) (briefs : List Brief) (room : ℕ) (events : Events)
    → record { items = events_of s briefs; room = room } ≡ events
    → length events.items < events.room
    → length briefs < room
fewer s briefs room events is less = grind (arith, length-map)

-- it is kept with the others
pub one_more : (s u : Store) (briefs now : List Brief) (b : Brief) (capacity room : ℕ)
    → AreStored s briefs capacity room
    → Grew s u
    → IsWithin u b
    → now ≡ briefs ++ b ∷ []
    → length briefs < room
    → AreStored u now capacity room
one_more s u briefs now b capacity room kept grown last is less = grind (arith, length-append, All-push, (all_stay s u briefs grown.stays kept.within))

-- the events are the same, with one more
pub events_more : (s u : Store) (briefs now : List Brief) (b : Brief) (event : Event) → Stays s u
    → AllByRecursion (IsWithin s) briefs
    → now ≡ briefs ++ b ∷ []
    → event_of u b ≡ event
    → events_of u now ≡ events_of s briefs ++ event ∷ []
events_more s u briefs now b event stays all is told =
    ap (events_of u) is ∙ map-append (event_of u) briefs (b ∷ []) ∙ (λ i. (all_stay s u briefs stays all).0 i ++ told i ∷ [])
