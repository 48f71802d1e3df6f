-- What why says, from what each case of it says: proofs of the laws on reasons.
use Rattle.std.proofs.Common.{◌≡◌, ℕ, ◌<◌, ◌≤◌, length, Bool, true, false, not, Option, Some, is_some, refl, sym, ap, arith, inl, inr}
use Rattle.uring_laws.proofs.Common.{IsLeast, Requests, entry_of, failed_member_of, fault_of, faulty_member_of, first_doom, has_ended, holder_of, holds_back, is_after_failure, is_doomed, is_failure_before, is_faulty_member, is_in_turn, is_issuable, is_joined_inside, is_joined_yes, is_outstanding, is_ready, is_running, is_some_least_below, keeps_back, least_below, least_below_tells, since_of, some_member, waits_for, why_of, ◌↔◌, ◌⊎◌}
use Rattle.uring_entry.specs.declared.fault.Fault.{Fault}
use Rattle.uring_entry.specs.declared.why.Why.{Why}
use Rattle.uring_entry.specs.declared.why.Why.TheVariants.{NeverAccepted, HasEnded, Runs, IsDoomed, Waits, MayStart}
use Rattle.uring_entry.specs.declared.why.Doom.{Doom}
use Rattle.uring_entry.specs.declared.why.Since.{Since}
use Rattle.uring_entry.proofs.WhyLemmas.{IsTold, told, told_as}
use Rattle.uring_laws.specs.Reasons.{AnswerAgrees, can_be_issued, IsUnstarted, CanStart, IsSince, IsWaiting, IsLeastOf, IsDoomOf, GoesOn}

-- Standing.

-- whom nothing holds back is ready, and the other way round
ready_is : (r : Requests) (n : ℕ) → is_ready r n ≡ not (is_some (holder_of r n))
unfolding is_ready
ready_is r n = ap not (sym (is_some_least_below (holds_back r n) n))

-- Who was never accepted, has ended or runs.

pub unaccepted_said : (r : Requests) (n : ℕ)
    → (why_of r n ≡ NeverAccepted) ↔ (length r.accepted ≤ n)
unaccepted_said r n = grind arith

pub ended_said : (r : Requests) (n : ℕ)
    → (why_of r n ≡ HasEnded) ↔ ((n < length r.accepted) × (has_ended r n ≡ true))
ended_said r n = grind arith

pub runs_said : (r : Requests) (n : ℕ)
    → (why_of r n ≡ Runs) ↔ ((is_outstanding r n ≡ true) × (is_running r n ≡ true))
runs_said r n = grind arith

-- What can be issued.

pub issuable_said : (r : Requests) (n : ℕ) → is_issuable r n ≡ can_be_issued (why_of r n)
issuable_said r n = grind (arith, ready_is)

pub may_start_said : (r : Requests) (n : ℕ) → why_of r n ≡ MayStart → CanStart r n
may_start_said r n e = grind (arith, ready_is, is_some)

pub said_may_start : (r : Requests) (n : ℕ) → CanStart r n → why_of r n ≡ MayStart
said_may_start r n c = grind (arith, ready_is, is_some)

-- What it waits for.

since_said : (r : Requests) (n m : ℕ) → waits_for r n m ≡ true → IsSince r n m (since_of r n m)
since_said r n m waits = grind arith

pub waits_said : (r : Requests) (n m : ℕ) (since : Since) → why_of r n ≡ Waits m since
    → IsWaiting r n m since
waits_said r n m since e = grind (arith, (told_as r n (Waits m since) e), least_below_tells, since_said)

-- What dooms it.

pub least_of : (p : ℕ → Bool) (bound m : ℕ) → least_below p bound ≡ Some m → IsLeastOf p bound m
least_of p bound m e = assumption (least_below_tells p bound m e)

doom_is : (r : Requests) (n : ℕ) (a : Option Fault) (b d : Option ℕ) → fault_of (entry_of r n) ≡ a → faulty_member_of r n ≡ b
    → failed_member_of r n ≡ d → is_doomed r n ≡ true → IsDoomOf r n (first_doom a b d)
unfolding is_doomed some_member is_after_failure
doom_is r n a b d x y z doomed =
    let faulty = is_some_least_below (is_faulty_member r n) (length r.accepted) in
    let failed = is_some_least_below (is_failure_before r n) n in
    grind (arith, (ap is_some y), (ap is_some z), faulty, failed, least_of)

pub doom_said : (r : Requests) (n : ℕ) (doom : Doom) → why_of r n ≡ IsDoomed doom
    → IsUnstarted r n × (is_doomed r n ≡ true) × IsDoomOf r n doom
doom_said r n doom e = grind (arith, doom_is)

-- Two steps.

-- of one that hasn't ended, of which this is told
stands : (r : Requests) (m : ℕ) (why : Why) → why_of r m ≡ why → IsTold r m why → m < length r.accepted → has_ended r m ≡ false
    → GoesOn r m ⊎ ((k : ℕ) × (other : Since) × (why_of r m ≡ Waits k other) × IsLeast (holds_back r m) m k)
stands r m why is t given going = grind (arith, issuable_said, (least_below_tells (holds_back r m) m))

-- whoever holds another back hasn't ended
holder_going : (r : Requests) (n m : ℕ) → holds_back r n m ≡ true → has_ended r m ≡ false
holder_going r n m holds = grind arith

-- The least that holds one back, the least that holds that one back, and again the least: three in a row there never are.
three_none : (r : Requests) (n m k j : ℕ) → IsLeast (holds_back r n) n m
    → IsLeast (holds_back r m) m k → IsLeast (holds_back r k) k j → ⊥
three_none r n m k j a b d = grind (arith, (is_joined_yes r j m), (is_joined_yes r k n), is_joined_inside)

pub two_steps : (r : Requests) (n m : ℕ) (since : Since) → why_of r n ≡ Waits m since
    → GoesOn r m ⊎ ((k : ℕ) × (other : Since) × (why_of r m ≡ Waits k other) × GoesOn r k)
two_steps r n m since e =
    let t = told_as r n (Waits m since) e in
    let a = least_below_tells (holds_back r n) n m t.2 in
    let given = t.0.given in
    elim (stands r m (why_of r m) refl (told r m) (grind arith) (holder_going r n m a.holds)) [
      | inl g ↦ inl g
      | inr b ↦ grind (arith, (stands r b.0 (why_of r b.0) refl (told r b.0)), holder_going, three_none)
    ]

-- The answer to an Issue, by either's rules.

pub answer_agrees : AnswerAgrees
unfolding is_in_turn
answer_agrees g w n = grind (arith, (λ (r : Requests). is_some_least_below (keeps_back r n) n), ready_is)
