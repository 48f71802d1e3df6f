-- Why a request stands as it does: from what is known of its group, and what each case says.
use Rattle.std.proofs.Common.{◌≡◌, ℕ, ◌<◌, ◌≤◌, length, true, false, Some, None, refl, arith}
use Rattle.uring_entry.proofs.Common.{IsGroup, Requests, first_broken, first_fault, has_ended, is_before, is_doomed, is_faulty, is_running}
use Rattle.uring_entry.specs.Why.{faulty_member_of, failed_member_of, doom_of, holder_of, since_of, waiting_for, why_of}
use Rattle.uring_entry.specs.declared.why.Why.{Why}
use Rattle.uring_entry.specs.declared.why.Why.TheVariants.{NeverAccepted, HasEnded, Runs, IsDoomed, Waits, MayStart}
use Rattle.uring_entry.proofs.GroupLemmas.{failed_member_is, least_member_is}

-- What dooms it.

-- the least member with a fault
pub faulty_member_is : (r : Requests) (from end n : ℕ) → IsGroup r from end → from ≤ n → n < end
    → faulty_member_of r n ≡ first_fault r from end
faulty_member_is r from end n g high lt = least_member_is r is_faulty from end n g high lt

-- the least earlier one that failed, if it is before n
pub failed_member_before : (r : Requests) (from end n m : ℕ) → IsGroup r from end → from ≤ n
    → n < end → first_broken r from end ≡ Some m → m < n → failed_member_of r n ≡ Some m
failed_member_before r from end n m g high lt e low = grind (arith, (failed_member_is r from end n g high lt))

pub failed_member_none : (r : Requests) (from end n : ℕ) → IsGroup r from end → from ≤ n → n < end
    → is_before (first_broken r from end) n ≡ false → failed_member_of r n ≡ None
failed_member_none r from end n g high lt e = grind (arith, (failed_member_is r from end n g high lt))

-- What each case says.

-- Outstanding, and not started.
pub record StillWaits (r : Requests) (n : ℕ) : Type 0 where
  pub given : n < length r.accepted
  pub unended : has_ended r n ≡ false
  pub unstarted : is_running r n ≡ false

-- what is so of n where this is told of it
abbrev pub IsTold : Requests → ℕ → Why → Type 0
IsTold r n NeverAccepted = length r.accepted ≤ n
IsTold r n HasEnded = (n < length r.accepted) × (has_ended r n ≡ true)
IsTold r n Runs = (n < length r.accepted) × (has_ended r n ≡ false) × (is_running r n ≡ true)
IsTold r n (IsDoomed doom) = StillWaits r n × (is_doomed r n ≡ true) × (doom ≡ doom_of r n)
IsTold r n (Waits m since) =
    StillWaits r n × (is_doomed r n ≡ false) × (holder_of r n ≡ Some m) × (since ≡ since_of r n m)
IsTold r n MayStart = StillWaits r n × (is_doomed r n ≡ false) × (holder_of r n ≡ None)

pub told_as : (r : Requests) (n : ℕ) (why : Why) → why_of r n ≡ why → IsTold r n why
told_as r n MayStart e = grind arith
told_as r n _ e = grind arith

pub told : (r : Requests) (n : ℕ) → IsTold r n (why_of r n)
told r n = told_as r n (why_of r n) refl

-- What is told, by what is so.

pub why_doomed : (r : Requests) (n : ℕ) → StillWaits r n → is_doomed r n ≡ true
    → why_of r n ≡ IsDoomed (doom_of r n)
why_doomed r n s doomed = grind arith

pub why_waiting : (r : Requests) (n : ℕ) → StillWaits r n → is_doomed r n ≡ false
    → why_of r n ≡ waiting_for r n (holder_of r n)
why_waiting r n s free = grind arith
