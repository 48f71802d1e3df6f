-- Glue. A search for a history that shows what was seen: the parts that are still to be gone on from, and the one that came furthest.
use Rattle.std.specs.Prelude.{◌≡◌, ℕ, ◌≤◌, Bool, true, false, List, [], ◌∷◌, ◌++◌, ◌==◌, ℤ, pos, neg_ℤ, length, map, ◌⊎◌, Option, Some, Contains, slice_get}
use Rattle.std.specs.declared.vec.Vec.{Vec}
use Rattle.std.specs.declared.alloc.Global.{Global}
use Rattle.uring_entry.specs.Setup.{Setup}
use Rattle.uring_entry.specs.Layout.{Cqe, Sqe, user_data_of}
use Rattle.uring_entry.specs.Success.{posts_completion}
use Rattle.uring_entry.specs.declared.errno.TheConstants.{EINVAL, EOPNOTSUPP, ECANCELED}
use Rattle.uring_entry.specs.Preparation.{is_faulty, is_cancel_all}
use Rattle.uring_entry.specs.Requests.{is_drain, outstanding_in, no_bytes, count_result}
use Rattle.uring_entry.specs.Results.{may_end}
use Rattle.uring_entry.specs.Completions.{completion_for}
use Rattle.uring_core.specs.Core.{Core, FitsApart}
use Rattle.uring_core.specs.Histories.{Event, History, world, history_of, IsLawfulApart}
use Rattle.uring_core.specs.declared.step.Step.{Step}
use Rattle.uring_core.specs.declared.step.Step.TheVariants as step
use Rattle.uring_core.specs.declared.answer.Answer.TheVariants as answer
use Rattle.uring_reconstruct.specs.Filling.{is_hidden, seen_in, completions_in, IsPart}

-- the lists of events that vectors hold
abbrev pub paths_of : List (Vec Event Global) → List (List Event)
paths_of todo = map (λ path. path.items) todo

-- a history with these events after it, the oldest of them first
abbrev pub onto : History → List Event → History
onto h [] = h
onto h (e ∷ later) = onto (e ∷ h) later

-- whether the completion ring's head was stored since the dispatcher last loaded it
abbrev pub stale_after : Bool → Step → Bool
stale_after stale step.StoreCqHead = true
stale_after stale step.Flush = false
stale_after stale _ = stale

abbrev pub is_stale : History → Bool
is_stale [] = false
is_stale (e ∷ before) = stale_after (is_stale before) e.0

-- nothing is left of what was seen, and nothing is outstanding
pub record IsWhole (g : Setup) (seen : List Event) (h : History) : Type 0 where
  pub shows : seen_in h ≡ seen
  pub none_outstanding : outstanding_in (world g h).requests ≡ 0
  pub posted : (world g h).completions.posted ≡ completions_in seen

-- From this part a history goes on that shows so many of the steps that were seen, and is whole if that is asked for.
pub record GoesOn (g : Setup) (seen : List Event) (whole : Bool) (far : ℕ) (h : History) : Type 0 where
  pub later : List Event
  pub part : IsPart g seen (onto h later)
  pub so_far : length (seen_in (onto h later)) ≡ far
  pub is_whole : whole ≡ true → IsWhole g seen (onto h later)

-- one of these parts goes on so
pub record OneGoesOn (g : Setup) (seen : List Event) (whole : Bool) (far : ℕ) (todo : List (List Event)) : Type 0 where
  pub path : List Event
  pub there : Contains todo path
  pub on : GoesOn g seen whole far (history_of path)

-- Each history that shows so many of the steps goes on from a part that is still to be gone on from, or shows no more than the one that came furthest, and isn't asked to be whole.
abbrev pub IsCovered : Setup → List Event → List (List Event) → ℕ → Type 0
IsCovered g seen todo place = (whole : Bool) (far : ℕ) → GoesOn g seen whole far []
    → ((whole ≡ false) × (far ≤ place)) ⊎ OneGoesOn g seen whole far todo

-- each of these paths is a part, if it is lawful
abbrev pub AreParts : Setup → List Event → List (List Event) → Type 0
AreParts g seen todo = (path : List Event) → Contains todo path → IsLawfulApart g (history_of path)
    → IsPart g seen (history_of path)

-- The part that came furthest: it shows so many of the steps that were seen.
pub record IsReach (g : Setup) (seen events : List Event) (place : ℕ) : Type 0 where
  pub part : IsPart g seen (history_of events)
  pub shows : length (seen_in (history_of events)) ≡ place

-- how the search stands
pub record IsSearch (g : Setup) (seen : List Event) (todo : List (List Event)) (events : List Event) (place : ℕ) : Type 0 where
  pub covered : IsCovered g seen todo place
  pub parts : AreParts g seen todo
  pub reach : IsReach g seen events place

-- The core shows this part, and this is the completion that is to be posted next.
pub record StandsAt (core : Core) (seen : List Event) (wanted : Option Cqe) (h : History) : Type 0 where
  pub fits : FitsApart core h
  pub part : IsPart core.setup seen h
  pub is_next : wanted ≡ slice_get (completions_in seen) (length (world core.setup h).completions.posted)

-- each of these events goes on from this part, if it is lawful there
abbrev pub AreNext : Setup → List Event → History → List Event → Type 0
AreNext g seen h next = (x : Event) → Contains next x → IsLawfulApart g (x ∷ h)
    → IsPart g seen (x ∷ h)

-- the end of a request of this entry, which posts or not as told, posts the completion that is to be posted next, or nothing
abbrev pub TellsNext : (told : Bool) → Sqe → Option Cqe → ℤ → List ℕ → Type 0
TellsNext told e wanted res bytes = told ≡ true → wanted ≡ Some (completion_for e res bytes)

-- a running request of this entry may end so: by either's rules it posts as its own entry says
pub record MayEndBy (e : Sqe) (res : ℤ) (bytes : List ℕ) : Type 0 where
  pub result : may_end e res ≡ true
  pub untold : posts_completion e res ≡ false → bytes ≡ no_bytes

-- so may a running request of this entry end here
pub record FinishFits (e : Sqe) (wanted : Option Cqe) (res : ℤ) (bytes : List ℕ) : Type 0 where
  pub may : MayEndBy e res bytes
  pub tells : TellsNext (posts_completion e res) e wanted res bytes

-- the errors with which a doomed request of this entry may end, by Linux's rules: EINVAL if its entry has a fault, EOPNOTSUPP if it asks to drain, ECANCELED if its entry has no fault
abbrev pub IsErrorOf : Sqe → ℤ → Type 0
IsErrorOf e res = ((res ≡ neg_ℤ EINVAL) × (is_faulty e ≡ true))
    ⊎ (((res ≡ neg_ℤ EOPNOTSUPP) × (is_drain e ≡ true))
    ⊎ ((res ≡ neg_ℤ ECANCELED) × (is_faulty e ≡ false)))

-- The results with which a request of this entry may end as it is issued and post nothing: a cancel with 0, and by the manual pages' rules one of all with each number of requests; by Linux's rules a doomed request with an error.
pub data QuietResult (is_linux : Bool) (e : Sqe) (accepted : ℕ) : ℤ → Type 0 where
  with_none : posts_completion e (pos 0) ≡ false → QuietResult is_linux e accepted (pos 0)
  with_count : (count : ℕ) → is_linux ≡ false → is_cancel_all e ≡ true → count ≤ accepted → posts_completion e (count_result count) ≡ false → QuietResult is_linux e accepted (count_result count)
  with_error : (res : ℤ) → is_linux ≡ true → IsErrorOf e res → QuietResult is_linux e accepted res

-- whether a request that isn't there, or of this entry, has the user data of the completion that is to be posted next
abbrev pub is_asked : Option Sqe → Option Cqe → Bool
is_asked (Some entry) (Some completion) = user_data_of entry == completion.user_data
is_asked _ _ = false

-- Events were added, each of which goes on from each part that the core shows, if it is lawful there.
pub record Adds (core : Core) (wanted : Option Cqe) (old new : List Event) : Type 0 where
  pub kept : (x : Event) → Contains old x → Contains new x
  pub right : (seen : List Event) (h : History) → StandsAt core seen wanted h
      → AreNext core.setup seen h old → AreNext core.setup seen h new

-- each end of the request n that goes on from the part is among these events
pub record HasEndsOf (g : Setup) (seen : List Event) (h : History) (n : ℕ) (next : List Event) : Type 0 where
  pub issued : (res : ℤ) (bytes : List ℕ) → IsPart g seen ((step.Issue n, answer.Ended res bytes) ∷ h)
      → Contains next (step.Issue n, answer.Ended res bytes)
  pub finished : (res : ℤ) (bytes : List ℕ)
      → IsPart g seen ((step.Finish n, answer.Ended res bytes) ∷ h)
      → Contains next (step.Finish n, answer.Ended res bytes)

-- the event is hidden and changes nothing
pub record IsIdle (g : Setup) (h : History) (x : Event) : Type 0 where
  pub hidden : is_hidden x.0 ≡ true
  pub same : world g (x ∷ h) ≡ world g h

-- each event that goes on from this part is among these, or is idle
abbrev pub AreAllNext : Setup → List Event → History → List Event → Type 0
AreAllNext g seen h next = (x : Event) → IsPart g seen (x ∷ h)
    → IsIdle g h x ⊎ Contains next x

-- paths were put after those that are still to be gone on from: this one with each event after it that goes on from it, and with others
pub record HasLonger (g : Setup) (seen path : List Event) (old new : List (List Event)) : Type 0 where
  pub next : List Event
  pub right : AreNext g seen (history_of path) next
  pub all : AreAllNext g seen (history_of path) next
  pub is : new ≡ old ++ map (λ x. path ++ x ∷ []) next
