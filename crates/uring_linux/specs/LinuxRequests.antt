-- The requests of a ring as Linux 6.18 keeps them, where it differs from the manual pages. Requests, groups and links are those of uring_entry's Requests. Each rule here was seen of the kernel, but for what says that it is our own; which entries are faulty and which flags are refused is the core's own rule (uring_entry's Preparation). docs/PROTOCOL.md has them side by side with the manual pages', in the section By Linux's rules.
use Rattle.std.specs.Prelude.{ℕ, ◌+◌, ℤ, pos, neg_ℤ, Bool, true, false, not, ◌&&◌, ◌||◌, ◌==◌, nat_lt, nat_le, List, length, Option, Some, None, is_some, if◌then◌else◌}
use Rattle.uring_entry.specs.declared.errno.TheConstants.{ENOENT, EINVAL, EOPNOTSUPP, EALREADY, ECANCELED}
use Rattle.uring_entry.specs.Flags.{skip_success}
use Rattle.uring_entry.specs.Layout.{Sqe, has, addr_of, user_data_of}
use Rattle.uring_entry.specs.Preparation.{fault_of, is_faulty, is_cancel_all}
use Rattle.uring_entry.specs.Success.{posts_completion}
use Rattle.uring_entry.specs.Requests as manual
use Rattle.uring_entry.specs.Requests.{Requests, entry_of, is_linked, is_drain, is_joined, is_in_group, is_after_failure, is_outstanding, is_running, has_ended}
use Rattle.uring_entry.specs.Why.{failed_member_of}
use Rattle.uring_entry.specs.Below.{some_below, least_below}
use Rattle.uring_entry.specs.declared.fault.Fault.{Fault}
use Rattle.uring_entry.specs.declared.fault.Fault.TheVariants.{Flags, Opcode}
use Rattle.uring_linux.specs.declared.deferred.Deferred.{Deferred}
use Rattle.uring_linux.specs.Drains.{Drains, no_drains, is_in_some, with_entry, still_deferred, deferred_with, with_deferred, with_ring}

-- All that happened to the requests of a ring, and how its drains stand.
pub record LinuxRequests : Type 0 where
  pub requests : Requests
  pub drains : Drains

-- nothing was accepted
abbrev pub no_request : LinuxRequests
no_request = record { requests = manual.no_request; drains = no_drains }

-- Faults, and what counts of flags.

-- Linux looks at an entry's operation and flags first. Where one of these is refused, it comes no further: such an entry doesn't drain, and has no drain refused after it, though it asks to skip. With another fault an entry drains all the same, and drains after it are refused if it asks to skip. Who posts goes by the flag alone.
abbrev pub is_seen_first : Fault → Bool
is_seen_first Flags = true
is_seen_first Opcode = true
is_seen_first _ = false

-- whether an entry that has this fault, or none, comes past that first look
abbrev pub comes_past : Option Fault → Bool
comes_past None = true
comes_past (Some fault) = not (is_seen_first fault)

-- whether an entry comes past the first look
abbrev pub is_past : Sqe → Bool
is_past e = comes_past (fault_of e)

-- whether an entry asks for skipped success, and comes past the first look
abbrev pub asks_to_skip : Sqe → Bool
asks_to_skip e = has skip_success e && is_past e

-- whether an entry asks to drain, and comes past the first look
abbrev pub asks_to_drain : Sqe → Bool
asks_to_drain e = is_drain e && is_past e

-- whether an entry that was accepted up to n, n itself included, asks for skipped success
abbrev pub has_skipped : Requests → ℕ → Bool
has_skipped r n = some_below (λ m. asks_to_skip (entry_of r m)) (n + 1)

-- whether n asks to drain in a ring that has used skipped success. docs/PROTOCOL.md, Drains
abbrev pub is_refused_drain : Requests → ℕ → Bool
is_refused_drain r n = asks_to_drain (entry_of r n) && has_skipped r n

-- whether n has a fault: by its entry alone, or as a drain that is refused
abbrev pub has_fault : Requests → ℕ → Bool
has_fault r n = is_faulty (entry_of r n) || is_refused_drain r n

-- whether n comes past the first look, and isn't a drain that is refused
abbrev pub is_let_in : Requests → ℕ → Bool
is_let_in r n = is_past (entry_of r n) && not (is_refused_drain r n)

-- whether n drains: it asks to, and is let in
abbrev pub is_granted_drain : Requests → ℕ → Bool
is_granted_drain r n = is_drain (entry_of r n) && is_let_in r n

-- Who is doomed: not started any more, but ended in its turn. No cancel dooms anybody.

-- whether some member of n's group has a fault
unfoldable pub is_in_faulty_group : Requests → ℕ → Bool
is_in_faulty_group r n =
    some_below (λ m. is_in_group r m n && has_fault r m) (length r.accepted)

-- whether n is doomed: in a group with a fault, or after a member with a soft link that failed
abbrev pub is_doomed : Requests → ℕ → Bool
is_doomed r n = is_in_faulty_group r n || is_after_failure r n

-- what a doomed request ends with: its own fault's number, that of a refused drain first, else ECANCELED
abbrev pub doomed_result : Requests → ℕ → ℤ
doomed_result r n =
    if is_refused_drain r n then neg_ℤ EOPNOTSUPP else
    if is_faulty (entry_of r n) then neg_ℤ EINVAL else
    neg_ℤ ECANCELED

-- Who may start.

-- whether m is an earlier member of n's group that hasn't ended
abbrev pub keeps_back : Requests → ℕ → ℕ → Bool
keeps_back r n m = is_joined r m n && not (has_ended r m)

-- whether every earlier member of n's group has ended. Members go on in order, doomed ones too
unfoldable pub is_in_turn : Requests → ℕ → Bool
is_in_turn r n = not (some_below (keeps_back r n) n)

-- whether n's group is deferred
abbrev pub is_deferred : LinuxRequests → ℕ → Bool
is_deferred l n = is_in_some l.drains.deferred n

-- whether n, in its turn, may start or is to end
abbrev pub goes_on : LinuxRequests → ℕ → Bool
goes_on l n = is_doomed l.requests n || not (is_deferred l n)

-- whether something can be done with n: it is to end as doomed, or may start
abbrev pub is_issuable : LinuxRequests → ℕ → Bool
is_issuable l n =
    is_outstanding l.requests n && (not (is_running l.requests n) && (is_in_turn l.requests n && goes_on l n))

-- the least request that can be issued
abbrev pub next_of : LinuxRequests → Option ℕ
next_of l = least_below (is_issuable l) (length l.requests.accepted)

-- Cancels, of a core where no read waits: what runs is found, and can't be taken back.

-- whether the cancel n finds m: another request that runs, with the user data that the cancel names
abbrev pub is_found : Requests → ℕ → ℕ → Bool
is_found r n m =
    is_running r m && (not (m == n) && (user_data_of (entry_of r m) == addr_of (entry_of r n)))

-- the request that the cancel n finds: the least. Our own rule, where the kernel takes the newest of several reads that wait
unfoldable pub found_by : Requests → ℕ → Option ℕ
found_by r n = least_below (is_found r n) (length r.accepted)

-- What the cancel n ends with. One of all ends with 0: of what workers have the kernel may count any number, and that none is counted is our own rule.
abbrev pub cancel_result : Requests → ℕ → ℤ
cancel_result r n =
    if is_cancel_all (entry_of r n) then pos 0 else
    if is_some (found_by r n) then neg_ℤ EALREADY else
    neg_ℤ ENOENT

-- Who posts.

-- the first member of n's group
unfoldable pub first_of : Requests → ℕ → Option ℕ
first_of r n = least_below (λ m. is_joined r m n) n

-- Whose failure ends n as cancelled, if another's does: in a group with a fault the first member counts for all after it.
abbrev pub breaker_of : Requests → ℕ → Option ℕ
breaker_of r n = if is_in_faulty_group r n then first_of r n else failed_member_of r n

-- Whether the end of n with this result posts a completion, if this one's failure brought it about or nobody's. After a member that failed and asks to skip nobody posts, and after another everybody, whatever its own flags.
abbrev pub posts_after : Requests → Option ℕ → ℕ → ℤ → Bool
posts_after r None n res = posts_completion (entry_of r n) res
posts_after r (Some m) n res = not (has skip_success (entry_of r m))

-- What each event makes of it.

-- whether all that is outstanding belongs to these groups
unfoldable pub is_alone : Requests → List Deferred → Bool
is_alone r groups =
    not (some_below (λ k. not (has_ended r k) && not (is_in_some groups k)) (length r.accepted))

-- whether an entry with a fault was taken for the next group
unfoldable pub is_faulty_from : Requests → ℕ → Bool
is_faulty_from r from = some_below (λ m. nat_le from m && has_fault r m) (length r.accepted)

-- these are deferred, but for those that go on
abbrev pub after_going_on : Requests → List Deferred → List Deferred
after_going_on r groups = still_deferred (is_alone r groups) groups

-- The next group is accepted, which goes up to the last entry. In a ring that drains it is deferred, unless it has a fault.
abbrev pub with_group : Requests → Drains → Drains
with_group r d =
    if not d.ring || is_faulty_from r d.from
    then with_deferred d (length r.accepted) d.deferred
    else with_ring
    (with_deferred d (length r.accepted) (after_going_on r (deferred_with d (length r.accepted))))
    d.group

-- the last entry is taken
abbrev pub with_last_entry : Requests → ℕ → Drains → Drains
with_last_entry r n d =
    with_entry d (d.from == n) (is_let_in r n) (is_granted_drain r n)

-- an entry is accepted; its group is with the first that has no link flag
abbrev pub with_accepted : LinuxRequests → Sqe → LinuxRequests
with_accepted l e =
    let r = manual.with_accepted l.requests e in
    let d = with_last_entry r (length l.requests.accepted) l.drains in
    record { requests = r; drains = if is_linked e then d else with_group r d }

-- a call closes, and cuts the group of its last entry
abbrev pub with_cut : LinuxRequests → LinuxRequests
with_cut l =
    let r = manual.with_cut l.requests in
    record {
      requests = r;
      drains = if nat_lt l.drains.from (length r.accepted) then with_group r l.drains else l.drains;
    }

-- a request starts
abbrev pub with_started : LinuxRequests → ℕ → LinuxRequests
with_started l n = record l { requests = manual.with_started l.requests n }

-- a request ends, and what was deferred may go on
abbrev pub with_ended : LinuxRequests → ℕ → ℤ → List ℕ → LinuxRequests
with_ended l n res bytes =
    let r = manual.with_ended l.requests n res bytes in
    record {
      requests = r;
      drains = record l.drains { deferred = after_going_on r l.drains.deferred };
    }
