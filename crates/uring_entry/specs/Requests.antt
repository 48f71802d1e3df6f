-- The requests that were accepted, as lists of all that ever happened to them. io_uring_enter(2), IOSQE_IO_LINK, IOSQE_IO_HARDLINK, IOSQE_IO_DRAIN and IORING_OP_ASYNC_CANCEL.
use Rattle.std.specs.Prelude.{ℕ, ◌+◌, ℤ, pos, neg_ℤ, ◌-◌, ◌^◌, Bool, not, ◌&&◌, ◌||◌, ◌==◌, nat_lt, nat_le, min, max, List, [], ◌∷◌, ◌++◌, length, replicate, slice_index_or, Option, Some, None, if◌then◌else◌}
use Rattle.std.specs.List.{list_any}
use Rattle.std.specs.Option.{option_to_list}
use Rattle.uring_entry.specs.declared.errno.TheConstants.{ENOENT, EINVAL, EALREADY, ECANCELED}
use Rattle.uring_entry.specs.declared.operation.Op.{Op}
use Rattle.uring_entry.specs.Flags.{io_drain, io_link, io_hardlink}
use Rattle.uring_entry.specs.Layout.{Sqe, zero_entry, has, addr_of, user_data_of}
use Rattle.uring_entry.specs.Preparation.{is_faulty, is_cancel, is_cancel_all, operation_of}
use Rattle.uring_entry.specs.Success.{is_success}
use Rattle.uring_entry.specs.Below.{some_below, least_below, all_below, count_below}

-- How a request ended: its number, the result, and the bytes that its completion carries.
pub record Ending : Type 0 where
  pub number : ℕ
  pub res : ℤ
  pub bytes : List ℕ

-- All that happened to requests. A request's number is its place in accepted.
pub record Requests : Type 0 where
  -- the entries accepted, in order
  pub accepted : List Sqe
  -- how many were accepted when each call closed, in order
  pub cuts : List ℕ
  -- the requests that were started, in order
  pub started : List ℕ
  -- the requests that a cancel doomed, in order
  pub cancelled : List ℕ
  -- the ends, in order
  pub ended : List Ending

-- nothing was accepted
abbrev pub no_request : Requests
no_request = record { accepted = []; cuts = []; started = []; cancelled = []; ended = [] }

-- a request's entry
abbrev pub entry_of : Requests → ℕ → Sqe
entry_of r n = slice_index_or r.accepted n zero_entry

-- What an entry's flags say.

-- another member of the group follows. io_uring_enter(2), IOSQE_IO_LINK and IOSQE_IO_HARDLINK
abbrev pub is_linked : Sqe → Bool
is_linked e = has io_link e || has io_hardlink e

-- a failure dooms the members after it: IO_LINK, and not IO_HARDLINK. io_uring_enter(2), IOSQE_IO_LINK and IOSQE_IO_HARDLINK
abbrev pub is_soft : Sqe → Bool
is_soft e = has io_link e && not (has io_hardlink e)

-- the group drains. io_uring_enter(2), IOSQE_IO_DRAIN
abbrev pub is_drain : Sqe → Bool
is_drain e = has io_drain e

-- How requests stand.

abbrev pub has_started : Requests → ℕ → Bool
has_started r n = list_any (λ m. m == n) r.started

abbrev pub has_ended : Requests → ℕ → Bool
has_ended r n = list_any (λ e. e.number == n) r.ended

-- accepted, and not ended
abbrev pub is_outstanding : Requests → ℕ → Bool
is_outstanding r n = nat_lt n (length r.accepted) && not (has_ended r n)

-- started, and not ended
abbrev pub is_running : Requests → ℕ → Bool
is_running r n = has_started r n && not (has_ended r n)

-- ended without success. io_uring_enter(2), IOSQE_IO_LINK: any unexpected result is an error
abbrev pub has_failed : Requests → ℕ → Bool
has_failed r n = list_any (λ e. (e.number == n) && not (is_success (entry_of r n) e.res)) r.ended

-- Groups: the accepted entries are cut after each entry without a link flag, and where a call closed. io_uring_enter(2), IOSQE_IO_LINK: a chain doesn't go past a submission call.

-- the last member of its group
abbrev pub is_last : Requests → ℕ → Bool
is_last r n = not (is_linked (entry_of r n)) || list_any (λ cut. cut == n + 1) r.cuts

-- whether no group ends from m on and before n: with m at most n, they are members of one group
unfoldable pub is_joined : Requests → ℕ → ℕ → Bool
is_joined r m n = not (some_below (λ k. nat_le m k && is_last r k) n)

-- whether m and n are members of one group
abbrev pub is_in_group : Requests → ℕ → ℕ → Bool
is_in_group r m n = is_joined r (min m n) (max m n)

-- whether some member of n's group has this property
unfoldable pub some_member : Requests → (Sqe → Bool) → ℕ → Bool
some_member r p n = some_below (λ m. is_in_group r m n && p (entry_of r m)) (length r.accepted)

-- whether n's group drains. A group drains if some member does: our own rule
abbrev pub is_draining : Requests → ℕ → Bool
is_draining r n = some_member r is_drain n

-- whether some member of n's group has a fault. io_uring_enter(2), IOSQE_IO_HARDLINK, for the members after it; that it dooms the others too is our own rule
abbrev pub is_in_faulty_group : Requests → ℕ → Bool
is_in_faulty_group r n = some_member r is_faulty n

-- Who is doomed: not started any more, but ended as cancelled.

-- an earlier member of n's group has a soft link and failed. io_uring_enter(2), IOSQE_IO_LINK; that it reaches all later members is our own rule
unfoldable pub is_after_failure : Requests → ℕ → Bool
is_after_failure r n =
    some_below (λ m. is_joined r m n && is_soft (entry_of r m) && has_failed r m) n

-- a cancel chose n before it started
abbrev pub is_cancelled : Requests → ℕ → Bool
is_cancelled r n = list_any (λ m. m == n) r.cancelled

-- whether n is doomed, for one of the three reasons
unfoldable pub is_doomed : Requests → ℕ → Bool
is_doomed r n = is_in_faulty_group r n || is_after_failure r n || is_cancelled r n

-- Who may start.

-- whether n waits for m, a request before it: they are members of one group, or one of their groups drains. io_uring_enter(2), IOSQE_IO_LINK and IOSQE_IO_DRAIN
abbrev pub waits_for : Requests → ℕ → ℕ → Bool
waits_for r n m = is_joined r m n || is_draining r m || is_draining r n

-- whether m keeps n from starting: n waits for it, and it hasn't ended
abbrev pub holds_back : Requests → ℕ → ℕ → Bool
holds_back r n m = not (has_ended r m) && waits_for r n m

-- whether n may start: it waits for nobody that hasn't ended
unfoldable pub is_ready : Requests → ℕ → Bool
is_ready r n = not (some_below (holds_back r n) n)

-- whether something can be done with n: it is to end as doomed, or may start. A doomed request waits for nothing: our own rule
abbrev pub is_issuable : Requests → ℕ → Bool
is_issuable r n = is_outstanding r n && not (is_running r n) && (is_doomed r n || is_ready r n)

-- the least request that can be issued
abbrev pub next_of : Requests → Option ℕ
next_of r = least_below (is_issuable r) (length r.accepted)

-- the least outstanding request
abbrev pub least_of : Requests → Option ℕ
least_of r = least_below (is_outstanding r) (length r.accepted)

-- How doomed requests and cancels end.

-- the result of a doomed request: EINVAL if it has a fault itself, else ECANCELED. io_uring_enter(2), CQE ERRORS and IOSQE_IO_LINK
abbrev pub doomed_result : Requests → ℕ → ℤ
doomed_result r n = if is_faulty (entry_of r n) then neg_ℤ EINVAL else neg_ℤ ECANCELED

-- whether the cancel n may choose m: it is outstanding, another request, has the user data that the cancel names, and isn't doomed
abbrev pub is_candidate : Requests → ℕ → ℕ → Bool
is_candidate r n m =
    is_outstanding r m && not (m == n) && (user_data_of (entry_of r m) == addr_of (entry_of r n)) && not (is_doomed r m)

-- the request that the cancel n chooses: the least that it may. Our own rule
unfoldable pub target_of : Requests → ℕ → Option ℕ
target_of r n = least_below (is_candidate r n) (length r.accepted)

-- what a cancel that chose this ends with: ENOENT if it chose none, EALREADY if the one chosen is running, else 0. io_uring_enter(2), IORING_OP_ASYNC_CANCEL
abbrev pub result_for : Requests → Option ℕ → ℤ
result_for r None = neg_ℤ ENOENT
result_for r (Some m) = if is_running r m then neg_ℤ EALREADY else pos 0

-- whether the cancel n of all has m as a target: what a cancel may choose, if it isn't running. Our own rule
abbrev pub is_target : Requests → ℕ → ℕ → Bool
is_target r n m = is_candidate r n m && not (is_running r m)

-- the targets of the cancel n of all, in order
unfoldable pub targets_of : Requests → ℕ → List ℕ
targets_of r n = all_below (is_target r n) (length r.accepted)

-- what a cancel of all with so many targets ends with: their number, and no more than a result can tell. io_uring_prep_cancel(3), IORING_ASYNC_CANCEL_ALL; that it can be 0, and the limit, are our own rule
abbrev pub count_result : ℕ → ℤ
count_result count = pos (min count (2 ^ 31 - 1))

-- what the cancel n ends with
abbrev pub cancel_result : Requests → ℕ → ℤ
cancel_result r n =
    if is_cancel_all (entry_of r n) then count_result (length (targets_of r n)) else
    result_for r (target_of r n)

-- whom the cancel n chooses: each of its targets if it is one of all, and else one at most
abbrev pub choices_of : Requests → ℕ → List ℕ
choices_of r n =
    if is_cancel_all (entry_of r n) then targets_of r n else option_to_list (target_of r n)

-- What is told of them.

-- how many requests are outstanding
abbrev pub outstanding_in : Requests → ℕ
outstanding_in r = count_below (is_outstanding r) (length r.accepted)

-- how many requests are running
abbrev pub running_in : Requests → ℕ
running_in r = count_below (is_running r) (length r.accepted)

-- the operation of n, if it is running
abbrev pub operation_running : Requests → ℕ → Option Op
operation_running r n = if is_running r n then Some (operation_of (entry_of r n)) else None

-- the entry of n, if it is outstanding
abbrev pub entry_outstanding : Requests → ℕ → Option Sqe
entry_outstanding r n = if is_outstanding r n then Some (entry_of r n) else None

-- what each event makes of it

-- an entry is accepted
abbrev pub with_accepted : Requests → Sqe → Requests
with_accepted r entry = record r { accepted = r.accepted ++ entry ∷ [] }

-- the entries of a call are accepted, and the call closes
abbrev pub with_cut : Requests → Requests
with_cut r = record r { cuts = r.cuts ++ length r.accepted ∷ [] }

abbrev pub with_call : Requests → List Sqe → Requests
with_call r entries = with_cut (record r { accepted = r.accepted ++ entries })

-- a request starts
abbrev pub with_started : Requests → ℕ → Requests
with_started r n = record r { started = r.started ++ n ∷ [] }

-- a request ends
abbrev pub with_ended : Requests → ℕ → ℤ → List ℕ → Requests
with_ended r n res bytes =
    record r { ended = r.ended ++ record { number = n; res = res; bytes = bytes } ∷ [] }

-- the bytes of an end that gives none
abbrev pub no_bytes : List ℕ
no_bytes = replicate 64 0

-- cancels chose these too
abbrev pub with_cancelled : Requests → List ℕ → Requests
with_cancelled r chosen = record r { cancelled = r.cancelled ++ chosen }

-- who is doomed by the end of n with this result: whom a cancel chose that succeeded. Our own rule, also for one that waits in a chain or for a drain
abbrev pub chosen_by : Requests → ℕ → ℤ → List ℕ
chosen_by r n res =
    if is_cancel (entry_of r n) && is_success (entry_of r n) res then choices_of r n else []

-- a request ends as it is issued, and a cancel that succeeded dooms whom it chose
abbrev pub with_issued_end : Requests → ℕ → ℤ → Requests
with_issued_end r n res = with_ended (with_cancelled r (chosen_by r n res)) n res no_bytes
