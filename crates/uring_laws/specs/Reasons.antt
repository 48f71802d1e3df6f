-- What it says of a request why it stands as it does: laws of any requests, by the manual pages' rules but for the answer to an Issue.
use Rattle.std.specs.Prelude.{◌≡◌, ◌↔◌, ℕ, ◌<◌, ◌≤◌, ℤ, pos, neg_ℤ, Bool, true, false, if◌then◌else◌, length, Some, ◌⊎◌}
use Rattle.uring_entry.specs.Requests.{Requests, entry_of, has_ended, is_outstanding, is_running, is_candidate, cancel_result, no_bytes, is_issuable, is_doomed, is_ready, is_in_faulty_group, is_after_failure, is_cancelled, is_joined, is_draining, holds_back}
use Rattle.uring_entry.specs.Preparation.{fault_of, is_faulty, is_cancel, is_cancel_all}
use Rattle.uring_entry.specs.declared.errno.TheConstants.{ENOENT, EALREADY}
use Rattle.uring_entry.specs.Why.{is_faulty_member, is_failure_before, why_of}
use Rattle.uring_dispatch.specs.Cancels.{found_by}
use Rattle.uring_dispatch.specs.declared.answers.CancelFound.{CancelFound}
use Rattle.uring_dispatch.specs.declared.answers.CancelFound.TheVariants as found
use Rattle.uring_entry.specs.Setup.{Setup}
use Rattle.uring_rules.specs.Rules as by_rules
use Rattle.uring_core.specs.World.{World, requests_of}
use Rattle.uring_core.specs.StepAnswers.{issue_answer}
use Rattle.uring_core.specs.declared.answer.Answer.{Answer}
use Rattle.uring_core.specs.declared.answer.Answer.TheVariants as answer
use Rattle.uring_entry.specs.declared.why.Why.{Why}
use Rattle.uring_entry.specs.declared.why.Why.TheVariants.{NeverAccepted, HasEnded, Runs, IsDoomed, Waits, MayStart}
use Rattle.uring_entry.specs.declared.why.Doom.{Doom}
use Rattle.uring_entry.specs.declared.why.Doom.TheVariants.{OwnFault, FaultOf, FailureOf, Cancel, RefusedDrain}
use Rattle.uring_entry.specs.declared.why.Since.{Since}
use Rattle.uring_entry.specs.declared.why.Since.TheVariants.{SameGroup, ItDrains, OwnDrains, Deferred}

-- It is told to be never accepted exactly if no request of its number was, to have ended exactly if it was accepted and has ended, and to run exactly if it is outstanding and was started.
abbrev pub EndIsSaid : Type 0
EndIsSaid = (r : Requests) (n : ℕ) → ((why_of r n ≡ NeverAccepted) ↔ (length r.accepted ≤ n))
    × ((why_of r n ≡ HasEnded) ↔ ((n < length r.accepted) × (has_ended r n ≡ true)))
    × ((why_of r n ≡ Runs) ↔ ((is_outstanding r n ≡ true) × (is_running r n ≡ true)))

-- whether a request of which this is told can be issued
abbrev pub can_be_issued : Why → Bool
can_be_issued (IsDoomed doom) = true
can_be_issued MayStart = true
can_be_issued _ = false

-- What can be issued is told to be doomed, or to be free to start.
abbrev pub IssuableIsSaid : Type 0
IssuableIsSaid = (r : Requests) (n : ℕ) → is_issuable r n ≡ can_be_issued (why_of r n)

-- Accepted, not started and not ended.
pub record IsUnstarted (r : Requests) (n : ℕ) : Type 0 where
  pub outstanding : is_outstanding r n ≡ true
  pub still : is_running r n ≡ false

-- Nothing keeps it from starting.
pub record CanStart (r : Requests) (n : ℕ) : Type 0 where
  pub unstarted : IsUnstarted r n
  pub free : is_doomed r n ≡ false
  pub ready : is_ready r n ≡ true

-- It is told to be free to start exactly if it can start.
abbrev pub MayStartIsSaid : Type 0
MayStartIsSaid = (r : Requests) (n : ℕ) → (why_of r n ≡ MayStart) ↔ CanStart r n

-- this is the first reason for which n waits for m; no group is deferred by the manual pages' rules
abbrev pub IsSince : Requests → ℕ → ℕ → Since → Type 0
IsSince r n m SameGroup = is_joined r m n ≡ true
IsSince r n m ItDrains = (is_joined r m n ≡ false) × (is_draining r m ≡ true)
IsSince r n m OwnDrains =
    (is_joined r m n ≡ false) × (is_draining r m ≡ false) × (is_draining r n ≡ true)
IsSince r n m Deferred = ⊥

-- n waits for m, the least request that keeps it from starting, for this reason.
pub record IsWaiting (r : Requests) (n m : ℕ) (since : Since) : Type 0 where
  pub unstarted : IsUnstarted r n
  pub free : is_doomed r n ≡ false
  pub before : m < n
  pub holds : holds_back r n m ≡ true
  pub least : (k : ℕ) → k < m → holds_back r n k ≡ false
  pub reason : IsSince r n m since

abbrev pub WaitsIsSaid : Type 0
WaitsIsSaid =
    (r : Requests) (n m : ℕ) (since : Since) → why_of r n ≡ Waits m since → IsWaiting r n m since

-- m is the least number below this bound of which p holds
pub record IsLeastOf (p : ℕ → Bool) (bound m : ℕ) : Type 0 where
  pub below : m < bound
  pub holds : p m ≡ true
  pub least : (k : ℕ) → k < m → p k ≡ false

-- this dooms n, and nothing that is told before it does; no drain is refused by the manual pages' rules
abbrev pub IsDoomOf : Requests → ℕ → Doom → Type 0
IsDoomOf r n (OwnFault fault) = fault_of (entry_of r n) ≡ Some fault
IsDoomOf r n (FaultOf m) =
    (is_faulty (entry_of r n) ≡ false) × IsLeastOf (is_faulty_member r n) (length r.accepted) m
IsDoomOf r n (FailureOf m) =
    (is_in_faulty_group r n ≡ false) × IsLeastOf (is_failure_before r n) n m
IsDoomOf r n Cancel =
    (is_in_faulty_group r n ≡ false) × (is_after_failure r n ≡ false) × (is_cancelled r n ≡ true)
IsDoomOf r n RefusedDrain = ⊥

abbrev pub DoomIsSaid : Type 0
DoomIsSaid = (r : Requests) (n : ℕ) (doom : Doom) → why_of r n ≡ IsDoomed doom
    → IsUnstarted r n × (is_doomed r n ≡ true) × IsDoomOf r n doom

-- it runs, or it can be issued
abbrev pub GoesOn : Requests → ℕ → Type 0
GoesOn r n = (is_running r n ≡ true) ⊎ (is_issuable r n ≡ true)

-- Whoever waits, waits for one that runs or can be issued, or for one that waits for such a one.
abbrev pub TwoSteps : Type 0
TwoSteps = (r : Requests) (n m : ℕ) (since : Since) → why_of r n ≡ Waits m since
    → GoesOn r m ⊎ ((k : ℕ) × (other : Since) × (why_of r m ≡ Waits k other) × GoesOn r k)

-- the answer to an Issue of a request of which this is told, by the rules of the set-up
abbrev pub answer_told : (is_linux : Bool) → Requests → ℕ → Why → Answer
answer_told is_linux r n NeverAccepted = answer.Unknown
answer_told is_linux r n HasEnded = answer.Unknown
answer_told is_linux r n Runs = answer.Running
answer_told is_linux r n (IsDoomed doom) =
    answer.Ended (by_rules.doomed_result is_linux r n) no_bytes
answer_told is_linux r n (Waits m since) = answer.NotReady
answer_told is_linux r n MayStart =
    if is_cancel (entry_of r n) then answer.Ended (by_rules.cancel_result is_linux r n) no_bytes else answer.Run

-- By either's rules the answer called for by an Issue is the one that goes with what is told just before.
abbrev pub AnswerAgrees : Type 0
AnswerAgrees = (g : Setup) (w : World) (n : ℕ) → issue_answer g w n
    ≡ answer_told g.linux w.requests n (by_rules.why_of g.linux (requests_of w) n)

-- What a cancel of one request finds.

-- the cancel n finds this: the least request that it may choose, running or not, or that there is none
abbrev pub IsFound : Requests → ℕ → CancelFound → Type 0
IsFound r n found.Nobody = (m : ℕ) → m < length r.accepted → is_candidate r n m ≡ false
IsFound r n (found.Running m) =
    IsLeastOf (is_candidate r n) (length r.accepted) m × (is_running r m ≡ true)
IsFound r n (found.Chosen m) =
    IsLeastOf (is_candidate r n) (length r.accepted) m × (is_running r m ≡ false)

-- what a cancel that finds this ends with, if it is carried out. io_uring_enter(2), IORING_OP_ASYNC_CANCEL
abbrev pub ends_with : CancelFound → ℤ
ends_with found.Nobody = neg_ℤ ENOENT
ends_with (found.Running m) = neg_ℤ EALREADY
ends_with (found.Chosen m) = pos 0

-- n is an outstanding cancel of one request, without a fault, and finds this.
pub record Finds (r : Requests) (n : ℕ) (f : CancelFound) : Type 0 where
  pub outstanding : is_outstanding r n ≡ true
  pub right : is_faulty (entry_of r n) ≡ false
  pub cancels : is_cancel (entry_of r n) ≡ true
  pub one : is_cancel_all (entry_of r n) ≡ false
  pub found : IsFound r n f
  pub result : cancel_result r n ≡ ends_with f

abbrev pub FoundIsSaid : Type 0
FoundIsSaid = (r : Requests) (n : ℕ) (f : CancelFound) → (found_by r n ≡ Some f) ↔ Finds r n f
