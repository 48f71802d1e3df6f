-- The requests of a ring by the rules of its set-up: the manual pages', or Linux's where these differ. Each definition here only chooses between the two; uring_entry's Requests has the manual pages', uring_linux's LinuxRequests those of Linux, and what both share.
use Rattle.std.specs.Prelude.{ℕ, ℤ, Bool, not, ◌&&◌, nat_le, List, length, Option, if◌then◌else◌}
use Rattle.uring_entry.specs.Layout.{Sqe}
use Rattle.uring_entry.specs.Below.{least_below, all_below}
use Rattle.uring_entry.specs.Requests as manual
use Rattle.uring_entry.specs.Requests.{Requests, entry_of, no_bytes, with_ended}
use Rattle.uring_entry.specs.Success.{posts_completion}
use Rattle.uring_entry.specs.Why as manual_why
use Rattle.uring_entry.specs.declared.why.Why.{Why}
use Rattle.uring_dispatch.specs.Cancels as manual_cancels
use Rattle.uring_dispatch.specs.declared.answers.CancelFound.{CancelFound}
use Rattle.uring_linux.specs.Drains.{Drains}
use Rattle.uring_linux.specs.LinuxRequests as linux
use Rattle.uring_linux.specs.LinuxRequests.{LinuxRequests, is_in_turn, is_deferred, posts_after, breaker_of, with_cut}
use Rattle.uring_linux.specs.Happenings.{with_entries}
use Rattle.uring_linux.specs.LinuxWhy as linux_why
use Rattle.uring_linux.specs.LinuxCancels as linux_cancels

-- whether n is doomed, and may end now: by the manual pages' rules at once, by Linux's in its turn
abbrev pub ends_doomed : (is_linux : Bool) → Requests → ℕ → Bool
ends_doomed is_linux r n =
    if is_linux then is_in_turn r n && linux.is_doomed r n else manual.is_doomed r n

-- what it ends with then
abbrev pub doomed_result : (is_linux : Bool) → Requests → ℕ → ℤ
doomed_result is_linux r n =
    if is_linux then linux.doomed_result r n else manual.doomed_result r n

-- whether n may start, if it isn't doomed
abbrev pub may_start : (is_linux : Bool) → LinuxRequests → ℕ → Bool
may_start is_linux l n =
    if is_linux then is_in_turn l.requests n && not (is_deferred l n) else manual.is_ready l.requests n

-- what the cancel n ends with, if it may start
abbrev pub cancel_result : (is_linux : Bool) → Requests → ℕ → ℤ
cancel_result is_linux r n =
    if is_linux then linux.cancel_result r n else manual.cancel_result r n

-- whether the end of n with this result posts a completion
abbrev pub posts : (is_linux : Bool) → Requests → ℕ → ℤ → Bool
posts is_linux r n res =
    if is_linux then posts_after r (breaker_of r n) n res else posts_completion (entry_of r n) res

-- whether something can be done with n: it is to end as doomed, or may start
abbrev pub is_issuable : (is_linux : Bool) → LinuxRequests → ℕ → Bool
is_issuable is_linux l n =
    if is_linux then linux.is_issuable l n else manual.is_issuable l.requests n

-- the least request that can be issued
abbrev pub next_of : (is_linux : Bool) → LinuxRequests → Option ℕ
next_of is_linux l = least_below (is_issuable is_linux l) (length l.requests.accepted)

-- the requests that can be issued, in order
abbrev pub issuables_of : (is_linux : Bool) → LinuxRequests → List ℕ
issuables_of is_linux l = all_below (is_issuable is_linux l) (length l.requests.accepted)

-- the least request from n on that can be issued
abbrev pub issuable_from : (is_linux : Bool) → LinuxRequests → ℕ → Option ℕ
issuable_from is_linux l n =
    least_below (λ k. nat_le n k && is_issuable is_linux l k) (length l.requests.accepted)

-- why n stands as it does
abbrev pub why_of : (is_linux : Bool) → LinuxRequests → ℕ → Why
why_of is_linux l n = if is_linux then linux_why.why_of l n else manual_why.why_of l.requests n

-- what n finds, if it is an outstanding cancel of one request, without a fault
abbrev pub found_by : (is_linux : Bool) → Requests → ℕ → Option CancelFound
found_by is_linux r n =
    if is_linux then linux_cancels.told_of r n else manual_cancels.found_by r n

-- What each event makes of them.

-- the requests after n ended as it was issued: by Linux's rules no cancel dooms anybody
abbrev pub with_issued_end : (is_linux : Bool) → Requests → ℕ → ℤ → Requests
with_issued_end is_linux r n res =
    if is_linux then with_ended r n res no_bytes else manual.with_issued_end r n res

-- how the drains stand once a call has accepted these entries. By the manual pages' rules nothing is deferred, so that nothing is kept of them
abbrev pub drains_called : (is_linux : Bool) → LinuxRequests → List Sqe → Drains
drains_called is_linux l entries =
    if is_linux then (with_cut (with_entries l entries)).drains else l.drains

-- how they stand once n has ended
abbrev pub drains_ended : (is_linux : Bool) → LinuxRequests → ℕ → ℤ → Drains
drains_ended is_linux l n res =
    if is_linux then (linux.with_ended l n res no_bytes).drains else l.drains
