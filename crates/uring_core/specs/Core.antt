-- What rings and dispatcher hold, and the history that this fits.
use Rattle.std.specs.Prelude.{◌≡◌, ℕ, ◌+◌, ◌-◌, ◌*◌, ◌^◌, ◌<◌, ◌≤◌, max, ◌⊎◌, Bool, true, List, [], length, Option, Some, None, if◌then◌else◌}
use Rattle.uring_entry.specs.Setup.{Setup, IsWithinLimits}
use Rattle.uring_entry.specs.Layout.{Sqe}
use Rattle.uring_entry.specs.Submission.{Submission, Call, call_length, entries_from}
use Rattle.uring_rings.specs.Sq.{Sq, ShowsSubmission}
use Rattle.uring_rings.specs.Cq.{Cq, ShowsCompletions}
use Rattle.uring_rules.specs.RulesDispatch.{Rules, ShowsRequests}
use Rattle.uring_core.specs.Stops.{taken_entries, some_skips}
use Rattle.uring_core.specs.World.{World, requests_of}
use Rattle.uring_core.specs.Histories.{History, world, IsLawfulApart}
use Rattle.uring_entry.specs.Requests.{is_running, outstanding_in, running_in}
use Rattle.uring_entry.specs.declared.operation.Outcome.{Outcome}
use Rattle.uring_core.specs.declared.answer.Answer.{Answer}
use Rattle.uring_core.specs.declared.answer.Answer.TheVariants as answer
use Rattle.uring_core.specs.declared.cores.Counts.{Counts}
use Rattle.uring_core.specs.declared.step.Step.{Step}
use Rattle.uring_core.specs.declared.step.Step.TheVariants as step

-- The parts of a core: both rings, the dispatcher, the entries that the open call took, whether an entry that was taken asks for skipped success, and whether the ring is closed.
pub record Core : Type 0 where
  pub setup : Setup
  pub sq : Sq
  pub cq : Cq
  pub dispatch : Rules
  pub held : List Sqe
  pub has_skipped : Bool
  pub is_closed : Bool

-- the entries that the open call took so far
abbrev pub held_by : Submission → Option Call → List Sqe
held_by l None = []
held_by l (Some call) = entries_from l call.taken

-- the positions of the open call
abbrev pub positions_of : Option Call → ℕ
positions_of None = 0
positions_of (Some call) = call.count

-- The parts show what has happened.
pub record ShowsWorld (p : Core) (w : World) : Type 0 where
  pub submission : ShowsSubmission p.setup p.sq w.submission
  pub completions : ShowsCompletions p.setup p.cq w.completions
  pub requests : ShowsRequests p.dispatch (requests_of w)
  pub rules : p.dispatch.linux ≡ p.setup.linux
  pub held : p.held ≡ held_by w.submission w.submission.call
  pub skipped : p.has_skipped ≡ some_skips (taken_entries w.submission)
  pub closed : p.is_closed ≡ w.is_closed
  pub between : p.dispatch.is_between_calls ≡ true
  -- what is outstanding, and what the open call may still accept, will find room to be accepted and to end
  pub room_to_post : p.dispatch.outstanding + positions_of w.submission.call ≤ p.cq.room
  pub room_to_accept : positions_of w.submission.call ≤ p.dispatch.room
  -- and memory is there for each post that is promised
  pub promised : p.cq.room ≤ p.cq.spare
  -- numbers stay below 2 ^ 63, those of the open call too
  pub numbers : p.dispatch.accepted + positions_of w.submission.call ≤ 2 ^ 63 - 1
  -- no more was posted than has ended
  pub posts : length w.completions.posted + p.dispatch.outstanding ≤ p.dispatch.accepted

-- The core fits a history: it shows what the history has made, and each answer was called for, apart from what operations gave.
pub record FitsApart (p : Core) (h : History) : Type 0 where
  pub shows : ShowsWorld p (world p.setup h)
  pub lawful : IsLawfulApart p.setup h

-- some history is fitted
abbrev pub IsCore : Core → Type 0
IsCore p = IsWithinLimits p.setup × (h : History) × FitsApart p h

-- Memory is short for a call of so many positions: the dispatcher has none for so many requests, or the completion ring none for their ends and those of all outstanding requests.
abbrev pub IsShortFor : Core → ℕ → Type 0
IsShortFor p length = (p.dispatch.room < length) ⊎ (p.cq.spare < p.dispatch.outstanding + length)

-- memory is short for this step, of which only a Begin asks for any. Our own rule
abbrev pub IsShortOfMemory : Core → World → Step → Type 0
IsShortOfMemory p w (step.Begin count) = IsShortFor p (call_length w.submission count)
IsShortOfMemory p w _ = ⊥

-- How many elements suffice for each list of a core if a call of so many positions opens: one for each request accepted so far and of the call, and one more; and of the overflow list, one for each completion that waits, for the end of each outstanding request and of the call's, and for twice what it has memory for.
abbrev pub elements_for_call : Core → ℕ → ℕ
elements_for_call p positions =
    max (p.dispatch.accepted + positions + 1)
    (length p.cq.overflow + p.dispatch.outstanding + positions + 2 * (length p.cq.overflow + p.cq.spare))

-- how many elements suffice for each list in this step, of which only a Begin asks for memory. Our own rule
abbrev pub elements_for : Core → World → Step → ℕ
elements_for p w (step.Begin count) = elements_for_call p (call_length w.submission count)
elements_for p w _ = 0

-- No memory was given back: as many requests have memory, accepted or not, and as many completions in the overflow list, waiting or not. Our own rule
pub record HasNoLessMemory (old new : Core) : Type 0 where
  pub requests : old.dispatch.accepted + old.dispatch.room
      ≤ new.dispatch.accepted + new.dispatch.room
  pub completions : length old.cq.overflow + old.cq.spare ≤ length new.cq.overflow + new.cq.spare

-- any step but a finish
abbrev pub IsNoFinish : Step → Type 0
IsNoFinish (step.Finish n) = ⊥
IsNoFinish _ = Unit {0}

-- a running request ends with this outcome, and another is refused
abbrev pub IsFinished : World → ℕ → Outcome → Answer → Type 0
IsFinished w n outcome a = a
    ≡ (if is_running w.requests n then answer.Ended outcome.res outcome.bytes else answer.NotRunning)

-- The counts of what has happened.
pub record IsCounts (w : World) (c : Counts) : Type 0 where
  pub accepted : c.accepted ≡ length w.requests.accepted
  pub outstanding : c.outstanding ≡ outstanding_in w.requests
  pub running : c.running ≡ running_in w.requests
  pub posted : c.posted ≡ length w.completions.posted
  pub reaped : c.reaped ≡ length w.completions.reaped
  -- reaped ones are among the posted ones
  pub in_order : c.reaped ≤ c.posted
