-- What holds of every lawful history: the laws that `src/` states of it.
use Rattle.std.specs.Prelude.{◌≡◌, ◌↔◌, ℕ, ◌+◌, ◌<◌, ◌≤◌, ◌==◌, neg_ℤ, count_by, true, false, List, ◌∷◌, ◌++◌, length, take, drop, Some, slice_get, ◌⊎◌}
use Rattle.std.specs.List.{list_any}
use Rattle.uring_entry.specs.Setup.{Setup}
use Rattle.uring_entry.specs.Layout.{Cqe}
use Rattle.uring_entry.specs.Preparation.{is_cancel, operation_of}
use Rattle.uring_entry.specs.Submission.{entries_of}
use Rattle.uring_entry.specs.Requests.{Requests, entry_of, least_of, is_running, is_outstanding, is_doomed, doomed_result, waits_for, outstanding_in, Ending}
use Rattle.uring_entry.specs.Completions.{Completions, with_flushed}
use Rattle.uring_entry.specs.declared.errno.TheConstants.{ECANCELED}
use Rattle.uring_files.specs.Operations.{IsForFiles}
use Rattle.uring_rules.specs.Rules.{next_of}
use Rattle.uring_core.specs.World.{World, requests_of}
use Rattle.uring_core.specs.StepAnswers.{IsEnded, IsIssued, issue_answer}
use Rattle.uring_core.specs.CalledFor.{IsLawful}
use Rattle.uring_core.specs.Histories.{History, world, IsLawfulApart}
use Rattle.uring_core.specs.Events.{takes_in}
use Rattle.uring_laws.specs.Direct.{entries_taken, positions_taken, starts, ends}
use Rattle.uring_core.specs.declared.step.Step.TheVariants as step
use Rattle.uring_core.specs.declared.answer.Answer.{Answer}
use Rattle.uring_core.specs.declared.answer.Answer.TheVariants as answer

-- The entries that calls took are the ones that a beginning of the published positions has, each position once, in order: that beginning is as long as positions were taken.
pub record TakenOnceInOrder (g : Setup) (h : History) : Type 0 where
  pub beginning : positions_taken h ≤ length (world g h).submission.published
  pub in_order : entries_taken h
      ≡ entries_of (take (positions_taken h) (world g h).submission.published)

-- how often a request was started, and how often it ended
abbrev pub times_started : History → ℕ → ℕ
times_started h n = count_by (λ m. m == n) (starts h)

abbrev pub times_ended : History → ℕ → ℕ
times_ended h n = count_by (λ e. e.number == n) (ends h)

-- Each request is started at most once, and ends at most once, and only accepted ones do. With none outstanding, each accepted one ended exactly once.
pub record EachEndsOnce (g : Setup) (h : History) : Type 0 where
  pub starts_once : (n : ℕ) → times_started h n ≤ 1
  pub ends_once : (n : ℕ) → times_ended h n ≤ 1
  pub accepted_start : (n : ℕ) → 0 < times_started h n → n < length (world g h).requests.accepted
  pub accepted_end : (n : ℕ) → 0 < times_ended h n → n < length (world g h).requests.accepted
  pub all_end : ((n : ℕ) → is_outstanding (world g h).requests n ≡ false) → (n : ℕ)
      → n < length (world g h).requests.accepted → times_ended h n ≡ 1

-- By the manual pages' rules: a doomed request was never started, and each end of it has the result of the doomed: EINVAL if it has a fault itself, else ECANCELED.
pub record DoomedNeverRun (g : Setup) (h : History) : Type 0 where
  pub never_run : (n : ℕ) → is_doomed (world g h).requests n ≡ true → times_started h n ≡ 0
  pub ends_so : (k : ℕ) (e : Ending) → slice_get (ends h) k ≡ Some e
      → is_doomed (world g h).requests e.number ≡ true
      → e.res ≡ doomed_result (world g h).requests e.number

-- By the manual pages' rules a doomed request stays doomed.
abbrev pub DoomedStayDoomed : Setup → Type 0
DoomedStayDoomed g = (after before : History) (n : ℕ) → IsLawfulApart g (after ++ before)
    → n < length (world g before).requests.accepted → is_doomed (world g before).requests n ≡ true
    → is_doomed (world g (after ++ before)).requests n ≡ true

-- By the manual pages' rules an Issue that ends with ECANCELED is that of a request that was doomed just before.
abbrev pub CancelledWereDoomed : Setup → Type 0
CancelledWereDoomed g = (after before : History) (n : ℕ) (bytes : List ℕ)
    → IsLawfulApart g (after ++ (step.Issue n, answer.Ended (neg_ℤ ECANCELED) bytes) ∷ before)
    → is_doomed (world g before).requests n ≡ true

-- an Issue of n so answered starts it: it runs, or it ends at once and isn't doomed, as a cancel does
abbrev pub IsStart : Requests → ℕ → Answer → Type 0
IsStart r n a = (a ≡ answer.Run) ⊎ (IsEnded a × (is_doomed r n ≡ false))

-- Links and drains, by the manual pages' rules: when a request starts, each earlier one that it waits for has ended, once.
abbrev pub LinksAndDrainsHold : Setup → Type 0
LinksAndDrainsHold g = (after before : History) (m n : ℕ) (a : Answer)
    → IsLawfulApart g (after ++ (step.Issue n, a) ∷ before) → IsStart (world g before).requests n a
    → m < n
    → waits_for (world g (after ++ (step.Issue n, a) ∷ before)).requests n m ≡ true
    → times_ended before m ≡ 1

-- the completions that stand in the ring: put there, and not reaped
abbrev pub in_ring : Completions → List Cqe
in_ring l = drop (length l.reaped) (take l.put l.posted)

-- the completions that wait in the overflow list
abbrev pub in_overflow : Completions → List Cqe
in_overflow l = drop l.put l.posted

-- What is posted is, in order, what was reaped, what stands in the ring, and what waits in the overflow list. No more was put than the ring's size above the head that the application stored. Whoever waits in the overflow list waits for a full ring: as many were put as it holds above the head that the dispatcher last loaded.
pub record ReapedBeginPosted (size : ℕ) (l : Completions) : Type 0 where
  pub in_order : l.posted ≡ l.reaped ++ (in_ring l ++ in_overflow l)
  pub reaped_put : length l.reaped ≤ l.put
  pub put_posted : l.put ≤ length l.posted
  pub ring_holds : l.put ≤ l.head + size
  pub few_stand : length (in_ring l) ≤ size
  pub full_ring : l.put < length l.posted → l.put ≡ l.seen_head + size

-- After the ring is closed, no call opens or closes.
abbrev pub NothingAfterClose : Setup → Type 0
NothingAfterClose g = (after before : History)
    → IsLawfulApart g (after ++ (step.Close, answer.Shut) ∷ before)
    → list_any takes_in after ≡ false

-- A flush puts all that was posted, if the ring has room for it above the head that the application stored.
abbrev pub FlushPutsAll : Type 0
FlushPutsAll = (size : ℕ) (l : Completions) → length l.posted ≤ l.head + size
    → (with_flushed size l).put ≡ length l.posted

-- The count of the outstanding requests is 0 exactly if none is outstanding.
abbrev pub NoneIsOutstanding : Type 0
NoneIsOutstanding = (r : Requests) → (outstanding_in r ≡ 0) ↔ ((n : ℕ) → is_outstanding r n ≡ false)

-- With something outstanding there is a least outstanding request, and it is running, or else it is the next to be issued, and Issue doesn't refuse it.
pub record LeastCanGoOn (g : Setup) (w : World) : Type 0 where
  pub least : ℕ
  pub is_least : least_of w.requests ≡ Some least
  pub goes_on : (is_running w.requests least ≡ true)
      ⊎ ((next_of g.linux (requests_of w) ≡ Some least) × IsIssued (issue_answer g w least))

-- What is lawful is lawful apart from what operations gave, so that every law holds of it.
abbrev pub LawfulStandsApart : Setup → Type 0
LawfulStandsApart g = (h : History) → IsLawful g h → IsLawfulApart g h

-- No Finish ends with ECANCELED: no operation gives it.
abbrev pub NoFinishCancels : Setup → Type 0
NoFinishCancels g = (after before : History) (n : ℕ) (bytes : List ℕ)
    → IsLawful g (after ++ (step.Finish n, answer.Ended (neg_ℤ ECANCELED) bytes) ∷ before) → ⊥

-- What runs can be carried out on files: it is no cancel, and its operation can be asked of them.
pub record RunsOnFiles (r : Requests) (n : ℕ) : Type 0 where
  pub no_cancel : is_cancel (entry_of r n) ≡ false
  pub asks : IsForFiles (operation_of (entry_of r n))

-- Whatever runs in a lawful history can be carried out on files.
abbrev pub WhatRunsIsForFiles : Setup → Type 0
WhatRunsIsForFiles g = (h : History) (n : ℕ) → IsLawfulApart g h
    → is_running (world g h).requests n ≡ true → RunsOnFiles (world g h).requests n
