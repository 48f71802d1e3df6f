-- Histories of which the bytes at finishes aren't known, as the text of a trace leaves them open.
use Rattle.std.specs.Prelude.{◌≡◌, ℕ, nat_lt, List, [], ◌∷◌, ◌++◌, length, map, Option, Some, None, if◌then◌else◌, slice_get}
use Rattle.uring_entry.specs.Layout.{Cqe}
use Rattle.uring_entry.specs.Requests.{Requests, no_bytes}
use Rattle.uring_entry.specs.Setup.{Setup}
use Rattle.uring_core.specs.Events.{reaped_by}
use Rattle.uring_core.specs.Histories.{Event, History, world, IsLawfulApart}
use Rattle.uring_core.specs.declared.step.Step.{Step}
use Rattle.uring_core.specs.declared.step.Step.TheVariants as step
use Rattle.uring_core.specs.declared.answer.Answer.{Answer}
use Rattle.uring_core.specs.declared.answer.Answer.TheVariants as answer
use Rattle.uring_effect_points.specs.Effects.{IsLawfulEarly}
use Rattle.uring_effect_points.specs.Moves.{MeetsBytes}
use Rattle.uring_effect_points.specs.declared.mark.Mark.{Mark}
use Rattle.uring_effect_points.specs.declared.mark.Mark.TheVariants.{Ends}
use Rattle.uring_effect_points.specs.Marks.{mark_by}
use Rattle.uring_effect_points.specs.declared.decision.EffectsFound.{EffectsFound}
use Rattle.uring_effect_points.specs.declared.decision.EffectsFound.TheVariants.{Lawful, Unlawful, Unexplained, GaveUp}

-- a finish without the bytes that it gave, and any other event as it is
abbrev pub bare : Event → Event
bare (step.Finish n, answer.Ended res bytes) = (step.Finish n, answer.Ended res no_bytes)
bare e = e

-- the same events, but for the bytes at finishes
abbrev pub AreSameButBytes : List Event → List Event → Type 0
AreSameButBytes h k = map bare h ≡ map bare k

-- With some bytes at its finishes the history is lawful by early effects; with none is it lawful apart from what operations gave; with none is it lawful by early effects; or nothing is claimed.
abbrev pub IsFoundBare : Setup → History → EffectsFound → Type 0
IsFoundBare g h Lawful = (k : History) × IsLawfulEarly g k × AreSameButBytes k h
IsFoundBare g h Unlawful = (k : History) → AreSameButBytes k h → IsLawfulApart g k → ⊥
IsFoundBare g h Unexplained = (k : History) → AreSameButBytes k h → IsLawfulEarly g k → ⊥
IsFoundBare g h GaveUp = Unit {0}

-- What such a history tells of the bytes all the same: those of a completion that is reaped. The completions are reaped in the order in which they were posted, so the bytes of the one at a place are those of the end that posted it there.

-- the bytes of a completion, if there is one
abbrev pub bytes_of : Option Cqe → List (List ℕ)
bytes_of None = []
bytes_of (Some c) = c.payload ∷ []

-- the bytes of the completion that is reaped
abbrev pub bytes_reaped : Event → List (List ℕ)
bytes_reaped e = bytes_of (reaped_by e)

-- the bytes of all that are reaped, by events in the order in which they happened
abbrev pub bytes_told : List Event → List (List ℕ)
bytes_told [] = []
bytes_told (e ∷ later) = bytes_reaped e ++ bytes_told later

-- Glue. An event without any bytes, as a core follows it that knows none.
abbrev pub blank_completion : Cqe → Cqe
blank_completion c = record c { payload = no_bytes }

abbrev pub blank_answer : Step → Answer → Answer
blank_answer (step.Finish n) (answer.Ended res bytes) = answer.Ended res no_bytes
blank_answer step.Reap (answer.Reaped c) = answer.Reaped (blank_completion c)
blank_answer s a = a

abbrev pub blank : Event → Event
blank (s, a) = (s, blank_answer s a)

-- how many completions a history posted
abbrev pub posted_in : Setup → History → ℕ
posted_in g h = length (world g h).completions.posted

-- of these bytes those at the place of the completion that was posted, if one was: there were so many before, and so many after it
abbrev pub bytes_at : List (List ℕ) → ℕ → ℕ → Option (List ℕ)
bytes_at known before after = if nat_lt before after then slice_get known before else None

-- what is known of the bytes that an event gives after a history
abbrev pub known_by : Setup → List (List ℕ) → History → Event → Option (List ℕ)
known_by g known before e = bytes_at known (posted_in g before) (posted_in g (e ∷ before))

-- what an event has of operations, if so much is known of its bytes
abbrev pub known_mark : Option (List ℕ) → Requests → Event → Mark
known_mark known r (step.Finish n, answer.Ended res bytes) = Ends n (record { res = res; bytes = known })
known_mark known r e = mark_by r e

-- what these events have of operations after a history, the oldest of them first
abbrev pub known_marks : Setup → List (List ℕ) → History → List Event → List Mark
known_marks g known before [] = []
known_marks g known before (e ∷ later) =
    known_mark (known_by g known before e) (world g (e ∷ before)).requests e ∷ known_marks g known (e ∷ before) later

-- what is known of an issue that ends its request is what it gives
abbrev pub IssueMeets : Option (List ℕ) → Event → Type 0
IssueMeets known (step.Issue n, answer.Ended res bytes) = MeetsBytes known bytes
IssueMeets known e = Unit {0}

abbrev pub IssuesMeet : Setup → List (List ℕ) → History → List Event → Type 0
IssuesMeet g known before [] = Unit {0}
IssuesMeet g known before (e ∷ later) =
    IssueMeets (known_by g known before e) e × IssuesMeet g known (e ∷ before) later
