-- Why a request stands as it does, by Linux's rules. The order of the cases is that in which an issue is answered, and which of several reasons is told is our own rule.
use Rattle.std.specs.Prelude.{ℕ, not, ◌&&◌, nat_lt, length, Option, Some, None, unwrap_or, if◌then◌else◌}
use Rattle.uring_entry.specs.Below.{least_below}
use Rattle.uring_entry.specs.Preparation.{fault_of}
use Rattle.uring_entry.specs.Requests.{Requests, entry_of, has_ended, is_outstanding, is_running, is_in_group}
use Rattle.uring_entry.specs.Why.{failed_member_of}
use Rattle.uring_entry.specs.declared.fault.Fault.{Fault}
use Rattle.uring_entry.specs.declared.why.Why.{Why}
use Rattle.uring_entry.specs.declared.why.Why.TheVariants.{NeverAccepted, HasEnded, Runs, IsDoomed, Waits, MayStart}
use Rattle.uring_entry.specs.declared.why.Doom.{Doom}
use Rattle.uring_entry.specs.declared.why.Doom.TheVariants.{OwnFault, FaultOf, FailureOf, RefusedDrain}
use Rattle.uring_entry.specs.declared.why.Since.TheVariants.{SameGroup, Deferred}
use Rattle.uring_linux.specs.LinuxRequests.{LinuxRequests, has_fault, is_refused_drain, is_doomed, keeps_back, is_deferred}

-- the least member of n's group with a fault
abbrev pub faulty_member_of : Requests → ℕ → Option ℕ
faulty_member_of r n =
    least_below (λ m. is_in_group r m n && has_fault r m) (length r.accepted)

-- what dooms n, if it has no fault itself: a member of its group with a fault, or an earlier one with a soft link that failed
abbrev pub doom_without_fault : Requests → ℕ → Option ℕ → Doom
doom_without_fault r n (Some m) = FaultOf m
doom_without_fault r n None = FailureOf (unwrap_or (failed_member_of r n) n)

-- what dooms n, if it is no drain that the ring refuses: the fault of its entry, if it has one
abbrev pub doom_by : Requests → ℕ → Option Fault → Doom
doom_by r n (Some fault) = OwnFault fault
doom_by r n None = doom_without_fault r n (faulty_member_of r n)

-- what dooms n, if it is doomed
abbrev pub doom_of : Requests → ℕ → Doom
doom_of r n =
    if is_refused_drain r n then RefusedDrain else doom_by r n (fault_of (entry_of r n))

-- the least outstanding request that isn't deferred: what a deferred group waits for
abbrev pub least_free_of : LinuxRequests → Option ℕ
least_free_of l =
    least_below (λ n. is_outstanding l.requests n && not (is_deferred l n)) (length l.requests.accepted)

-- how n stands in its turn
abbrev pub in_its_turn : LinuxRequests → ℕ → Why
in_its_turn l n =
    if is_doomed l.requests n then IsDoomed (doom_of l.requests n) else
    if is_deferred l n then Waits (unwrap_or (least_free_of l) n) Deferred else
    MayStart

-- how n stands if this earlier member of its group keeps it back, or nobody does
abbrev pub kept_back_by : LinuxRequests → ℕ → Option ℕ → Why
kept_back_by l n (Some m) = Waits m SameGroup
kept_back_by l n None = in_its_turn l n

-- why n stands as it does
abbrev pub why_of : LinuxRequests → ℕ → Why
why_of l n =
    if not (nat_lt n (length l.requests.accepted)) then NeverAccepted else
    if has_ended l.requests n then HasEnded else
    if is_running l.requests n then Runs else
    kept_back_by l n (least_below (keeps_back l.requests n) n)
