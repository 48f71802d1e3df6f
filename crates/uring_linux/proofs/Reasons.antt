-- What is told of a request, and what a cancel finds, from what is kept.
use Rattle.std.proofs.Common.{◌≡◌, ℕ, ◌<◌, ◌≤◌, length, Bool, true, false, not, ◌&&◌, leb, ltb, Option, Some, None, sym, ap, arith, inl, inr}
use Rattle.uring_linux.proofs.Common.{IsGroup, LinuxRequests, Request, Requests, Shows, Tells, Window, at, doom_of, end_of, entry_of, fault_of, first_member, has_ended, if◌then◌else◌, is_deferred, is_doomed, is_faulty, is_outstanding, is_running, joined_member, keeps_back, kept_back_by, least_below, least_below_same, least_free_of, operation_of, unwrap_or, why_of}
use Rattle.uring_entry.specs.declared.fault.Fault.{Fault}
use Rattle.uring_entry.specs.declared.operation.Op.{Op}
use Rattle.uring_entry.specs.declared.operation.Op.TheVariants.{Cancel}
use Rattle.uring_entry.specs.declared.why.Why.{Why}
use Rattle.uring_entry.specs.declared.why.Why.TheVariants.{NeverAccepted, HasEnded, Runs, IsDoomed, Waits, MayStart}
use Rattle.uring_entry.specs.declared.why.Doom.{Doom}
use Rattle.uring_entry.specs.declared.why.Since.TheVariants.{Deferred}
use Rattle.uring_dispatch.specs.Cancels.{operation_outstanding}
use Rattle.uring_linux.specs.LinuxCancels.{told_for, told_of}
use Rattle.uring_linux.proofs.Standings.{outside}

-- Members.

-- the first earlier member that hasn't ended
pub keeper_is : (r : Requests) (from end n : ℕ) → IsGroup r from end → from ≤ n → n < end
    → first_member (λ m. not (has_ended r m)) from n ≡ least_below (keeps_back r n) n
unfolding first_member
keeper_is r from end n g high lt =
    least_below_same (λ m. leb from m && not (has_ended r m)) (keeps_back r n) n
    (λ m low. ap (λ b. b && not (has_ended r m)) (sym (joined_member r from end m n g high lt (omega arith))))

-- Why.

abbrev tell : (given ended running : Bool) → Why → Why
tell given ended running x =
    if not given then NeverAccepted else if ended then HasEnded else if running then Runs else x

-- what is told, by the tests
pub told_why : (l : LinuxRequests) (n : ℕ) (given ended running : Bool)
    → ltb n (length l.requests.accepted) ≡ given → has_ended l.requests n ≡ ended
    → is_running l.requests n ≡ running
    → tell given ended running (kept_back_by l n (least_below (keeps_back l.requests n) n)) ≡ why_of l n
told_why l n given ended running a b c = rw (a, c, b)

abbrev turn : (doomed deferred : Bool) → Doom → ℕ → Why
turn doomed deferred doom m = if doomed then IsDoomed doom else if deferred then Waits m Deferred else MayStart

-- what is told of one that nobody keeps back, by the tests
pub told_turn : (l : LinuxRequests) (n : ℕ) (doomed deferred : Bool)
    → least_below (keeps_back l.requests n) n ≡ None → is_doomed l.requests n ≡ doomed → is_deferred l n ≡ deferred
    → turn doomed deferred (doom_of l.requests n) (unwrap_or (least_free_of l) n)
    ≡ kept_back_by l n (least_below (keeps_back l.requests n) n)
told_turn l n doomed deferred none a b = rw (none, a, b)

-- who is not kept any more has ended
pub gone_ended : (s : Window) (r : Requests) (n : ℕ) → Shows s r → None ≡ at s n → n < end_of s
    → has_ended r n ≡ true
gone_ended s r n h none lt =
    elim (outside s r n h none) [ inl gone ↦ gone | inr past ↦ absurd (omega (arith, past, h.count)) ]

-- Cancels.

-- the end of what is told by an operation
told_by : (r : Requests) (n : ℕ) (o : Option Op) → operation_outstanding r n ≡ o → told_for r n o ≡ told_of r n
told_by r n o e = ap (told_for r n) (sym e)

-- who isn't outstanding finds nothing
pub told_gone : (r : Requests) (n : ℕ) → is_outstanding r n ≡ false → None ≡ told_of r n
told_gone r n e = told_by r n None (ap (λ b. if b && not (is_faulty (entry_of r n)) then Some (operation_of (entry_of r n)) else None) e)

-- who has a fault finds nothing
pub told_faulty : (q : Request) (r : Requests) (n : ℕ) (fault : Fault) → Tells q r n → fault_of q.entry ≡ Some fault
    → None ≡ told_of r n
told_faulty q r n fault t e = grind arith

-- what the others find, by what they are to do
pub told_healthy : (q : Request) (r : Requests) (n : ℕ) (op : Op) → Tells q r n → is_outstanding r n ≡ true
    → fault_of q.entry ≡ None → op ≡ operation_of q.entry → told_for r n (Some op) ≡ told_of r n
told_healthy q r n op t going e is = grind arith

-- what is no cancel finds nothing
pub told_other : (r : Requests) (n : ℕ) (op : Op) → ((t : ℕ) (all : Bool) → op ≡ Cancel t all → ⊥)
    → None ≡ told_for r n (Some op)
told_other r n op other = grind arith
