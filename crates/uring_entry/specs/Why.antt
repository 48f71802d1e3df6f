-- Why a request stands as it does. The order of the cases is that in which an issue is answered, and which of several reasons is told is our own rule.
use Rattle.std.specs.Prelude.{ℕ, Bool, not, ◌&&◌, nat_lt, length, Option, Some, None, if◌then◌else◌}
use Rattle.uring_entry.specs.Below.{least_below}
use Rattle.uring_entry.specs.Preparation.{fault_of, is_faulty}
use Rattle.uring_entry.specs.Requests.{Requests, entry_of, has_ended, has_failed, is_running, is_soft, is_in_group, is_joined, is_draining, is_doomed, holds_back}
use Rattle.uring_entry.specs.declared.fault.Fault.{Fault}
use Rattle.uring_entry.specs.declared.why.Why.{Why}
use Rattle.uring_entry.specs.declared.why.Why.TheVariants.{NeverAccepted, HasEnded, Runs, IsDoomed, Waits, MayStart}
use Rattle.uring_entry.specs.declared.why.Doom.{Doom}
use Rattle.uring_entry.specs.declared.why.Doom.TheVariants.{OwnFault, FaultOf, FailureOf, Cancel}
use Rattle.uring_entry.specs.declared.why.Since.{Since}
use Rattle.uring_entry.specs.declared.why.Since.TheVariants.{SameGroup, ItDrains, OwnDrains}

-- What dooms a request.

-- whether m is a member of n's group that has a fault. io_uring_enter(2), IOSQE_IO_HARDLINK
abbrev pub is_faulty_member : Requests → ℕ → ℕ → Bool
is_faulty_member r n m = is_in_group r m n && is_faulty (entry_of r m)

-- whether m, which is before n, is a member of n's group that has a soft link and failed. io_uring_enter(2), IOSQE_IO_LINK
abbrev pub is_failure_before : Requests → ℕ → ℕ → Bool
is_failure_before r n m = is_joined r m n && is_soft (entry_of r m) && has_failed r m

-- the least member of n's group with a fault
abbrev pub faulty_member_of : Requests → ℕ → Option ℕ
faulty_member_of r n = least_below (is_faulty_member r n) (length r.accepted)

-- the least earlier member of n's group that has a soft link and failed
abbrev pub failed_member_of : Requests → ℕ → Option ℕ
failed_member_of r n = least_below (is_failure_before r n) n

-- the first of these three that is there, and else a cancel
abbrev pub first_doom : Option Fault → Option ℕ → Option ℕ → Doom
first_doom (Some fault) faulty failed = OwnFault fault
first_doom None (Some m) failed = FaultOf m
first_doom None None (Some m) = FailureOf m
first_doom None None None = Cancel

-- what dooms n, if it is doomed
abbrev pub doom_of : Requests → ℕ → Doom
doom_of r n = first_doom (fault_of (entry_of r n)) (faulty_member_of r n) (failed_member_of r n)

-- What a request waits for.

-- the least request that keeps n from starting
abbrev pub holder_of : Requests → ℕ → Option ℕ
holder_of r n = least_below (holds_back r n) n

-- why n waits for m, an earlier one, if it does
abbrev pub since_of : Requests → ℕ → ℕ → Since
since_of r n m =
    if is_joined r m n then SameGroup else if is_draining r m then ItDrains else OwnDrains

-- how n stands if this keeps it from starting, or nothing does
abbrev pub waiting_for : Requests → ℕ → Option ℕ → Why
waiting_for r n (Some m) = Waits m (since_of r n m)
waiting_for r n None = MayStart

-- why n stands as it does
abbrev pub why_of : Requests → ℕ → Why
why_of r n =
    if not (nat_lt n (length r.accepted)) then NeverAccepted else
    if has_ended r n then HasEnded else
    if is_running r n then Runs else
    if is_doomed r n then IsDoomed (doom_of r n) else
    waiting_for r n (holder_of r n)
