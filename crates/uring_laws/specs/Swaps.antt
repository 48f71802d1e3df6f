-- Which two events that come one after the other may change places, and what they leave then: worlds that are alike, which no later answer tells apart. Exploring of one order of each class rests on it.
use Rattle.std.specs.Prelude.{◌≡◌, ◌≢◌, ◌⊎◌, ◌<◌, ℕ, ◌+◌, Bool, true, false, not, ◌||◌, nat_le, List, ◌∷◌, ◌++◌, length}
use Rattle.std.specs.List.{list_any}
use Rattle.std.specs.Option.{option_map_or}
use Rattle.uring_entry.specs.Setup.{Setup}
use Rattle.uring_entry.specs.Preparation.{operation_of}
use Rattle.uring_entry.specs.Requests.{Requests, Ending, entry_of}
use Rattle.uring_entry.specs.declared.operation.Op.{Op}
use Rattle.uring_entry.specs.declared.operation.Op.TheVariants.{Read, Write, Fsync}
use Rattle.uring_entry.specs.declared.operation.Outcome.{Outcome}
use Rattle.uring_files.specs.Contents.{FileContents}
use Rattle.uring_files.specs.Laws.{is_on}
use Rattle.uring_files.specs.Operations.{after, file_asked, result_of, IsOutcome}
use Rattle.uring_rules.specs.Rules.{ends_doomed, may_start, posts}
use Rattle.uring_core.specs.World.{World, requests_of}
use Rattle.uring_core.specs.CalledFor.{CalledFor, IsLawful, files_of}
use Rattle.uring_core.specs.Histories.{Event, History, world}
use Rattle.uring_core.specs.declared.step.Step.{Step}
use Rattle.uring_core.specs.declared.step.Step.TheVariants as step
use Rattle.uring_core.specs.declared.answer.Answer.{Answer}
use Rattle.uring_core.specs.declared.answer.Answer.TheVariants as answer

-- Worlds that are alike.

-- lists of the same elements, in any order: whatever is looked for is found in both or in neither
abbrev pub HaveSame : (X : Type 0) → List X → List X → Type 0
HaveSame X xs ys = (p : X → Bool) → list_any p xs ≡ list_any p ys

-- the same entries in the same calls, the same requests started and doomed by cancels, and the same ends, each in any order
pub record StandAlike (r q : Requests) : Type 0 where
  pub accepted : r.accepted ≡ q.accepted
  pub cuts : r.cuts ≡ q.cuts
  pub started : HaveSame ℕ r.started q.started
  pub cancelled : HaveSame ℕ r.cancelled q.cancelled
  pub ended : HaveSame Ending r.ended q.ended

-- Worlds that differ in nothing but the order in which requests started, were doomed by cancels and ended: the rings with all completions are the same, and so are the files; and by Linux's rules how the drains stand.
pub record AreAlike (g : Setup) (v w : World) : Type 0 where
  pub submission : v.submission ≡ w.submission
  pub requests : StandAlike v.requests w.requests
  pub completions : v.completions ≡ w.completions
  pub is_closed : v.is_closed ≡ w.is_closed
  pub drains : g.linux ≡ true → v.drains ≡ w.drains
  pub files : files_of g v ≡ files_of g w

-- In worlds that are alike the same answers are called for.
abbrev pub AlikeAnswerAlike : Setup → Type 0
AlikeAnswerAlike g = (v w : World) (s : Step) (a : Answer) → AreAlike g v w → CalledFor g v s a
    → CalledFor g w s a

-- the events of `rest` are lawful after k too, and leave a world that is alike to that after h
pub record GoesOnAlike (g : Setup) (rest h k : History) : Type 0 where
  pub lawful : IsLawful g (rest ++ k)
  pub alike : AreAlike g (world g (rest ++ h)) (world g (rest ++ k))

-- Whatever is lawful after one of two histories that made alike worlds is lawful after the other, and the worlds stay alike.
abbrev pub AlikeGoOnAlike : Setup → Type 0
AlikeGoOnAlike g = (rest h k : History) → IsLawful g k → AreAlike g (world g h) (world g k)
    → IsLawful g (rest ++ h) → GoesOnAlike g rest h k

-- Events that change places.

-- After h came x and then y. The other order is lawful too, each event with the same answer, and leaves a world that is alike.
pub record ChangePlaces (g : Setup) (h : History) (x y : Event) : Type 0 where
  pub lawful : IsLawful g (x ∷ y ∷ h)
  pub alike : AreAlike g (world g (y ∷ x ∷ h)) (world g (x ∷ y ∷ h))

-- If two events change places, they do so in the midst of a history: what came after them is lawful after the other order, and all that was posted and the files are the same at the end.
abbrev pub ChangeAnywhere : Setup → Type 0
ChangeAnywhere g = (rest h : History) (x y : Event) → ChangePlaces g h x y
    → IsLawful g (rest ++ (y ∷ x ∷ h)) → GoesOnAlike g rest (y ∷ x ∷ h) (x ∷ y ∷ h)

-- the request n starts
abbrev pub start_of : ℕ → Event
start_of n = (step.Issue n, answer.Run)

-- n ends, and not as a cancel that was carried out: it was running, or it was doomed, by the rules of the set-up, and ends as it is issued
abbrev pub Ends : (is_linux : Bool) → Requests → ℕ → Event → Type 0
Ends is_linux r n (step.Finish m, answer.Ended res bytes) = m ≡ n
Ends is_linux r n (step.Issue m, answer.Ended res bytes) = (m ≡ n) × (ends_doomed is_linux r m ≡ true)
Ends is_linux r n _ = ⊥

-- Two starts change places.
abbrev pub StartsChange : Setup → Type 0
StartsChange g = (h : History) (m n : ℕ) → IsLawful g (start_of n ∷ start_of m ∷ h)
    → ChangePlaces g h (start_of m) (start_of n)

-- A start changes places with the end of another request after it.
abbrev pub StartThenEnd : Setup → Type 0
StartThenEnd g = (h : History) (m n : ℕ) (e : Event) → Ends g.linux (world g h).requests m e → m ≢ n
    → IsLawful g (e ∷ start_of n ∷ h) → ChangePlaces g h (start_of n) e

-- An end changes places with the start of a request after it that might start before it too: by the manual pages' rules it waited for nobody any more, by Linux's it was in its turn and not deferred.
abbrev pub EndThenStart : Setup → Type 0
EndThenStart g = (h : History) (m n : ℕ) (e : Event) → Ends g.linux (world g h).requests m e
    → may_start g.linux (requests_of (world g h)) n ≡ true → IsLawful g (start_of n ∷ e ∷ h)
    → ChangePlaces g h e (start_of n)

-- whether an event ends a request and posts nothing, by the rules of the set-up
abbrev pub PostsNothing : (is_linux : Bool) → Requests → Event → Type 0
PostsNothing is_linux r (step.Finish m, answer.Ended res bytes) = posts is_linux r m res ≡ false
PostsNothing is_linux r (step.Issue m, answer.Ended res bytes) = posts is_linux r m res ≡ false
PostsNothing is_linux r _ = ⊥

-- Operations on these files with these outcomes that don't meet: the later one could end so on the files before the earlier one, the earlier one after the later one, and both orders leave the same files.
pub record DontMeet (files : List FileContents) (d : Op) (x : Outcome) (e : Op) (y : Outcome) : Type 0 where
  pub first : IsOutcome files e y
  pub second : IsOutcome (after files e y.res) d x
  pub leave : after (after files d x.res) e y.res ≡ after (after files e y.res) d x.res

-- a running request ends
abbrev pub finish_of : ℕ → Outcome → Event
finish_of n o = (step.Finish n, answer.Ended o.res o.bytes)

-- Two ends of running requests change places if one posts nothing, and their operations don't meet. By Linux's rules neither is of a group that is deferred: as long as the other is outstanding no group goes on, so the drains stand the same in either order.
abbrev pub FinishesChange : Setup → Type 0
FinishesChange g = (h : History) (m n : ℕ) (x y : Outcome)
    → PostsNothing g.linux (world g h).requests (finish_of m x) ⊎ PostsNothing g.linux (world g h).requests (finish_of n y)
    → DontMeet (files_of g (world g h)) (operation_of (entry_of (world g h).requests m)) x (operation_of (entry_of (world g h).requests n)) y
    → IsLawful g (finish_of n y ∷ finish_of m x ∷ h) → ChangePlaces g h (finish_of m x) (finish_of n y)

-- Which operations don't meet, by what they ask for.

-- whether `len` bytes at `off` and `count` bytes at `at` have none in common
abbrev pub are_disjoint : ℕ → ℕ → ℕ → ℕ → Bool
are_disjoint off len at count = nat_le (off + len) at || nat_le (at + count) off

-- whether no file is one that both are on
abbrev pub are_on_others : Op → Op → Bool
are_on_others d e = option_map_or (λ fd. not (is_on fd e)) (file_asked d) true

-- Whether two operations on one file stay apart: two reads do, two syncs, a read and a sync, a read and a write that lies before it, and two writes with no byte in common. A write after a read may make the file longer, and a sync notes the writes before it.
abbrev pub stay_apart_on_one : Op → Op → Bool
stay_apart_on_one (Read fd off len) (Read other at count) = true
stay_apart_on_one (Read fd off len) (Write other at count bytes) = nat_le (at + count) off
stay_apart_on_one (Read fd off len) (Fsync other) = true
stay_apart_on_one (Write fd off len bytes) (Read other at count) = nat_le (off + len) at
stay_apart_on_one (Write fd off len bytes) (Write other at count more) = are_disjoint off len at count
stay_apart_on_one (Fsync fd) (Read other at count) = true
stay_apart_on_one (Fsync fd) (Fsync other) = true
stay_apart_on_one d e = false

-- Whether two operations stay apart: on files of different descriptors all do, and those that are on no file.
abbrev pub stay_apart : Op → Op → Bool
stay_apart d e = are_on_others d e || stay_apart_on_one d e

-- Operations that stay apart don't meet, if each gave what it calls for on the files that it found, with no memory refused.
abbrev pub ApartDontMeet : Type 0
ApartDontMeet = (files : List FileContents) (d e : Op) (x y : Outcome) → stay_apart d e ≡ true
    → x ≡ result_of files d → y ≡ result_of (after files d x.res) e → DontMeet files d x e y

-- Starts, and all else that happens.

-- a step that neither issues nor finishes a request, and doesn't ask which can be issued
abbrev pub IsOnRings : Step → Type 0
IsOnRings (step.Issue n) = ⊥
IsOnRings (step.Finish n) = ⊥
IsOnRings step.Next = ⊥
IsOnRings s = Unit {0}

-- A start changes places with whatever the application does, with each step of a submission call and with a flush, after it or before it, if its request was accepted before both.
abbrev pub StartThenRings : Setup → Type 0
StartThenRings g = (h : History) (n : ℕ) (s : Step) (a : Answer) → IsOnRings s
    → IsLawful g ((s, a) ∷ start_of n ∷ h) → ChangePlaces g h (start_of n) (s, a)

abbrev pub RingsThenStart : Setup → Type 0
RingsThenStart g = (h : History) (n : ℕ) (s : Step) (a : Answer) → IsOnRings s
    → n < length (world g h).requests.accepted → IsLawful g (start_of n ∷ (s, a) ∷ h)
    → ChangePlaces g h (s, a) (start_of n)

-- whether an event is an issue
abbrev pub IsIssue : Event → Type 0
IsIssue (step.Issue n, a) = Unit {0}
IsIssue _ = ⊥

-- Two ends of which one is that of a doomed request, as it is issued, change places if one posts nothing, and the doomed could end before both: they were doomed, and by Linux's rules in their turn.
abbrev pub DoomedEndsChange : Setup → Type 0
DoomedEndsChange g = (h : History) (m n : ℕ) (d e : Event) → Ends g.linux (world g h).requests m d
    → Ends g.linux (world g h).requests n e → IsIssue d ⊎ IsIssue e
    → PostsNothing g.linux (world g h).requests d ⊎ PostsNothing g.linux (world g h).requests e
    → IsLawful g (e ∷ d ∷ h) → ChangePlaces g h d e

-- The two sides of a core.

-- a step on the submission ring, or of a call, that closes none
abbrev pub IsOnSubmission : Step → Type 0
IsOnSubmission (step.Fill slot entry) = Unit {0}
IsOnSubmission (step.Index word) = Unit {0}
IsOnSubmission step.StoreTail = Unit {0}
IsOnSubmission step.LoadHead = Unit {0}
IsOnSubmission (step.Begin count) = Unit {0}
IsOnSubmission step.Take = Unit {0}
IsOnSubmission s = ⊥

-- a step on requests and completions
abbrev pub IsOnRest : Step → Type 0
IsOnRest (step.Issue n) = Unit {0}
IsOnRest (step.Finish n) = Unit {0}
IsOnRest step.Flush = Unit {0}
IsOnRest step.LoadCqTail = Unit {0}
IsOnRest step.Reap = Unit {0}
IsOnRest step.StoreCqHead = Unit {0}
IsOnRest step.Next = Unit {0}
IsOnRest s = ⊥

-- Neither side sees the other, until a call closes: the steps of both change places.
abbrev pub SubmissionThenRest : Setup → Type 0
SubmissionThenRest g = (h : History) (s t : Step) (a b : Answer) → IsOnSubmission s → IsOnRest t
    → IsLawful g ((t, b) ∷ (s, a) ∷ h) → ChangePlaces g h (s, a) (t, b)

abbrev pub RestThenSubmission : Setup → Type 0
RestThenSubmission g = (h : History) (s t : Step) (a b : Answer) → IsOnSubmission s → IsOnRest t
    → IsLawful g ((s, a) ∷ (t, b) ∷ h) → ChangePlaces g h (t, b) (s, a)

-- Runs of one class.

-- a history with events that change places swapped, one pair after the other, wherever they stand
pub data IsReordered (g : Setup) : History → History → Type 0 where
  unchanged : (h : History) → IsReordered g h h
  swapped : (rest h last : History) (x y : Event) → ChangePlaces g h x y → IsReordered g (rest ++ (x ∷ y ∷ h)) last → IsReordered g (rest ++ (y ∷ x ∷ h)) last

-- the second history is lawful, and leaves a world that is alike to the first one's
pub record LeavesAlike (g : Setup) (h k : History) : Type 0 where
  pub lawful : IsLawful g k
  pub alike : AreAlike g (world g h) (world g k)

-- However a lawful history is reordered, it is lawful, and leaves a world that is alike.
abbrev pub ReorderedAlike : Setup → Type 0
ReorderedAlike g = (h k : History) → IsReordered g h k → IsLawful g h → LeavesAlike g h k
