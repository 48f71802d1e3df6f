-- What holds of every lawful history of a ring that keeps requests by Linux's rules. docs/PROTOCOL.md tells these, in the section By Linux's rules.
use Rattle.std.specs.Prelude.{◌≡◌, ℕ, ◌<◌, neg_ℤ, Bool, true, false, not, ◌&&◌, ◌||◌, nat_lt, List, [], ◌∷◌, ◌++◌, length, Some, slice_get, ◌⊎◌}
use Rattle.uring_entry.specs.Setup.{Setup}
use Rattle.uring_entry.specs.Below.{some_below}
use Rattle.uring_entry.specs.Requests.{Requests, Ending, entry_of, is_drain, is_joined, is_in_group, is_outstanding, is_running}
use Rattle.uring_entry.specs.declared.errno.TheConstants.{ECANCELED}
use Rattle.uring_linux.specs.LinuxRequests.{is_let_in, is_granted_drain, is_in_faulty_group, is_doomed, doomed_result, is_deferred}
use Rattle.uring_linux.specs.LinuxWhy.{least_free_of}
use Rattle.uring_core.specs.World.{World, requests_of}
use Rattle.uring_core.specs.StepAnswers.{IsEnded, IsIssued, issue_answer}
use Rattle.uring_core.specs.Histories.{History, world, IsLawfulApart}
use Rattle.uring_core.specs.declared.step.Step.TheVariants as step
use Rattle.uring_core.specs.declared.answer.Answer.{Answer}
use Rattle.uring_core.specs.declared.answer.Answer.TheVariants as answer
use Rattle.uring_laws.specs.Direct.{ends}
use Rattle.uring_laws.specs.Laws.{times_started, times_ended}

-- A doomed request was never started, and each end of it has the result of the doomed: EOPNOTSUPP if it is a drain that the ring refuses, EINVAL if its entry has another fault, else ECANCELED.
pub record DoomedNeverRun (g : Setup) (h : History) : Type 0 where
  pub never_run : (n : ℕ) → is_doomed (world g h).requests n ≡ true → times_started h n ≡ 0
  pub ends_so : (k : ℕ) (e : Ending) → slice_get (ends h) k ≡ Some e
      → is_doomed (world g h).requests e.number ≡ true
      → e.res ≡ doomed_result (world g h).requests e.number

-- A doomed request stays doomed.
abbrev pub DoomedStayDoomed : Setup → Type 0
DoomedStayDoomed g = (after before : History) (n : ℕ) → IsLawfulApart g (after ++ before)
    → n < length (world g before).requests.accepted → is_doomed (world g before).requests n ≡ true
    → is_doomed (world g (after ++ before)).requests n ≡ true

-- An Issue that ends with ECANCELED is that of a request that was doomed just before.
abbrev pub CancelledWereDoomed : Setup → Type 0
CancelledWereDoomed g = (after before : History) (n : ℕ) (bytes : List ℕ)
    → IsLawfulApart g (after ++ (step.Issue n, answer.Ended (neg_ℤ ECANCELED) bytes) ∷ before)
    → is_doomed (world g before).requests n ≡ true

-- Links: when a request starts, or ends as it is issued, each earlier member of its group has ended, once. The doomed wait for their turn too.
abbrev pub MembersGoInOrder : Setup → Type 0
MembersGoInOrder g = (after before : History) (m n : ℕ) (a : Answer)
    → IsLawfulApart g (after ++ (step.Issue n, a) ∷ before) → IsIssued a → m < n
    → is_joined (world g (after ++ (step.Issue n, a) ∷ before)).requests m n ≡ true
    → times_ended before m ≡ 1

-- an Issue of n so answered starts it: it runs, or it ends at once and isn't doomed, as a cancel does
abbrev pub IsStart : Requests → ℕ → Answer → Type 0
IsStart r n a = (a ≡ answer.Run) ⊎ (IsEnded a × (is_doomed r n ≡ false))

-- Drains: what starts is of no group that is deferred.
abbrev pub DeferredDontStart : Setup → Type 0
DeferredDontStart g = (after before : History) (n : ℕ) (a : Answer)
    → IsLawfulApart g (after ++ (step.Issue n, a) ∷ before) → IsStart (world g before).requests n a
    → is_deferred (requests_of (world g before)) n ≡ false

-- whether n is the first of its group
abbrev pub is_first : Requests → ℕ → Bool
is_first r n = not (some_below (λ k. is_joined r k n) n)

-- whether n owes a drain to the next group: it drains, and isn't the first of its own
abbrev pub owes_drain : Requests → ℕ → Bool
owes_drain r n = is_granted_drain r n && not (is_first r n)

-- whether n may take a drain that is owed: it is the first of its group, and let in
abbrev pub may_take : Requests → ℕ → Bool
may_take r n = is_first r n && is_let_in r n

-- whether n may take a drain that k owes: nobody between them may
abbrev pub is_owed_by : Requests → ℕ → ℕ → Bool
is_owed_by r n k = owes_drain r k && not (some_below (λ f. nat_lt k f && may_take r f) n)

-- whether n takes a drain that one before it owes
abbrev pub takes_drain : Requests → ℕ → Bool
takes_drain r n = may_take r n && some_below (is_owed_by r n) n

-- whether n's group drains: a member asks to, or takes a drain that is owed
abbrev pub drains : Requests → ℕ → Bool
drains r n =
    some_below (λ m. is_in_group r m n && (is_drain (entry_of r m) || takes_drain r m)) (length r.accepted)

-- whether n waits for m, a request before it: they are members of one group, or n's group drains, or m's does and has no fault
abbrev pub waits_for : Requests → ℕ → ℕ → Bool
waits_for r n m =
    is_joined r m n || drains r n || (drains r m && not (is_in_faulty_group r m))

-- Links and drains: when a request starts, each earlier one that it waits for has ended, once.
abbrev pub DrainsHold : Setup → Type 0
DrainsHold g = (after before : History) (m n : ℕ) (a : Answer)
    → IsLawfulApart g (after ++ (step.Issue n, a) ∷ before) → IsStart (world g before).requests n a
    → m < n → waits_for (world g before).requests n m ≡ true → times_ended before m ≡ 1

-- With something outstanding not all of it is deferred, and the least outstanding request that isn't is running, or else Issue doesn't refuse it.
pub record LeastFreeCanGoOn (g : Setup) (w : World) : Type 0 where
  pub least : ℕ
  pub is_least : least_free_of (requests_of w) ≡ Some least
  pub goes_on : (is_running w.requests least ≡ true) ⊎ IsIssued (issue_answer g w least)

abbrev pub LeastFreeGoesOn : Setup → Type 0
LeastFreeGoesOn g = (h : History) (n : ℕ) → IsLawfulApart g h
    → is_outstanding (world g h).requests n ≡ true → LeastFreeCanGoOn g (world g h)

-- No cancel dooms anybody.
abbrev pub CancelsDoomNobody : Setup → Type 0
CancelsDoomNobody g =
    (h : History) → IsLawfulApart g h → (world g h).requests.cancelled ≡ []
