-- The names that several of these files cite, passed on from one place. Declares nothing.
pub use Rattle.std.proofs.Math.Bool.{or-false}
pub use Rattle.std.proofs.lemmas.Bool.{and_from, and_left, both_ways, cases_Bool, cases_eq, cases_lt, eq-eqb, eqb-true, false≢true, le-leb, le-ltb, lt-ltb, ltb-true, ne_eqb, or_cases, or_right}
pub use Rattle.std.proofs.lemmas.Int.{to_z-of_z}
pub use Rattle.std.proofs.lemmas.List.{append-nil, append_assoc, get_or-set_other, get_or-set_same, get_or_past, get_or_read, length-set}
pub use Rattle.std.proofs.lemmas.Nat.Bits.{bit_at-lt, bit_at-suc, bit_at_lowest, bit_at_ones, bit_at_ones_above, shr_and_one}
pub use Rattle.std.proofs.lemmas.Option.{same_Some, slice_get_past}
pub use Rattle.std.specs.Int.{bit_at, w32}
pub use Rattle.std.specs.List.{count_by, list_all, list_any}
pub use Rattle.std.specs.Option.{option_to_list}
pub use Rattle.std.specs.Prelude.{IfErr, IfOk, IfSome, MatchOption, OnErr, OnOk, Result, if◌then◌else◌, int_le, nat_eq, pos}
pub use Rattle.std.specs.VecDeque.{deque_capacity, deque_len}
pub use Rattle.slab.specs.Slab.{Slab, get, slab_len}
pub use Rattle.uring_dispatch.specs.Accepts.{Accepts, new_request}
pub use Rattle.uring_dispatch.specs.ByUserData.{AreFound, GoesOn, HasPlaces, KeepsFrom, KeepsPlaces, Spans}
pub use Rattle.uring_dispatch.specs.Dispatch.{Dispatch, EndCounts, IssueCounts, ShowsRequests, dispatch_of}
unfoldable pub use Rattle.uring_dispatch.specs.Dispatch.{StandsFor}
pub use Rattle.uring_dispatch.specs.Grouped.{HasSameRecords, IsGroupOf, Shows}
pub use Rattle.uring_dispatch.specs.Groups.{AreGroups, Exchanges, Groups, HasBarrierBefore, IsBeyond, IsFirstDraining, IsLiveFront, IsSorted, covers, drain_of, group_at, last_group, with_barrier, with_member}
pub use Rattle.uring_dispatch.specs.Held.{AreHeld, HasGroup, HasLost, IsKept, IsNext, IsShown, IsShownGroup, IsSound, has_member, op_of}
pub use Rattle.uring_dispatch.specs.Limits.{IsLeastBelow, IsLimit, can_go, lesser_of}
pub use Rattle.uring_dispatch.specs.Waiting.{CanTell, GrowsTo, IsListed, IsListedAt, IsSameReach, Keeps, Reaches, StandsAsBefore, Starts, dooms, leads, waits_at_head, waits_doomed}
pub use Rattle.uring_dispatch.specs.Window.{Changes, HasBefore, IsAsBefore, IsFirst, IsTrimmed, IsWindow, Window, chosen, end_of, found_by, one_if, runs, started}
unfoldable pub use Rattle.uring_dispatch.specs.Window.{at, key_at}
pub use Rattle.uring_dispatch.specs.declared.answers.Issued.TheVariants.{Ended, NotReady, Run, Running, Unknown}
pub use Rattle.uring_dispatch.specs.declared.group.Barrier.{Barrier}
pub use Rattle.uring_dispatch.specs.declared.group.Group.{Group}
pub use Rattle.uring_dispatch.specs.declared.request.Request.{Request}
pub use Rattle.uring_dispatch.specs.declared.waiting.Waiting.{Waiting}
pub use Rattle.uring_entry.proofs.BelowLemmas.{all_below_none, all_below_past, is_some_value, least_below_none, least_below_some}
pub use Rattle.uring_entry.proofs.GroupLemmas.{doomed_is, draining_is, first_member_inside, groups_apart, joined_member, ready_not_after, ready_not_alone, ready_not_member, ready_yes}
pub use Rattle.uring_entry.proofs.RequestLemmas.{added_other, added_same, entry_of_accepted_at, entry_of_accepted_other, get_or_push_other, has_ended_other, has_ended_same, is_doomed_own_fault, is_running_ended_other, is_running_ended_same, is_running_started_other, is_running_started_same, least_of_goes_on, never_success, target_of_none, target_of_some}
pub use Rattle.uring_entry.specs.Below.{all_below, count_below, found_or, least_below}
pub use Rattle.uring_entry.specs.Groups.{IsGroup, earlier_of, is_before}
pub use Rattle.uring_entry.specs.Layout.{Sqe, addr_of, user_data_of}
pub use Rattle.uring_entry.specs.Preparation.{fault_of, is_cancel, is_cancel_all, is_faulty, operation_of}
pub use Rattle.uring_entry.specs.Requests.{Requests, cancel_result, chosen_by, entry_of, entry_outstanding, has_ended, has_started, holds_back, is_cancelled, is_candidate, is_drain, is_draining, is_issuable, is_last, is_linked, is_outstanding, is_ready, is_running, is_soft, is_target, least_of, no_bytes, operation_running, outstanding_in, result_for, running_in, target_of, with_accepted, with_cancelled, with_cut, with_ended, with_issued_end, with_started}
unfoldable pub use Rattle.uring_entry.specs.Requests.{is_after_failure, is_doomed, is_joined, some_member, targets_of}
pub use Rattle.uring_entry.specs.Success.{is_success}
pub use Rattle.uring_entry.specs.declared.operation.Op.{Op}
pub use Rattle.uring_entry.specs.declared.operation.Op.TheVariants.{Cancel}
pub use Rattle.uring_number_set.proofs.BlockLemmas.{holds_same, popped}
pub use Rattle.uring_number_set.specs.NumberSet.{HasGrown, HasMoved, HasSame, IsLeastFrom, NumberSet, Puts, holds}
