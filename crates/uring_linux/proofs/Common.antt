-- The names that several of these files cite, passed on from one place. Declares nothing.
pub use Rattle.std.proofs.Math.Bool.{and-true, or-false}
pub use Rattle.std.proofs.lemmas.Bool.{and_cases, and_from, and_left, and_parts, and_right, both_ways, cases_Bool, cases_eq, cases_lt, false_from_ne_true, le-leb, le-ltb, leb-true, lt-leb, lt-ltb, ltb-false, ltb-true, ne_eqb, not-false, not-true, or_cases, or_from, or_left, or_parts, or_right}
pub use Rattle.std.proofs.lemmas.Int.{to_z-of_z}
pub use Rattle.std.proofs.lemmas.Option.{same_Some, slice_get-get_or, slice_get_cases, slice_get_past, slice_get_within}
pub use Rattle.std.specs.Prelude.{if◌then◌else◌, nat_le, nat_lt, neg_ℤ, option_copied, unwrap_or}
pub use Rattle.uring_dispatch.proofs.Counting.{count_below_apart, count_below_changed, count_below_same, count_below_some, count_below_within, count_below_zero, get_all_below, length_all_below}
pub use Rattle.uring_dispatch.specs.Window.{one_if}
pub use Rattle.uring_entry.proofs.BelowLemmas.{IsLeast, is_some_least_below, is_some_value, least_below_none, least_below_out, least_below_same, least_below_some, least_below_tells, some_below_in, some_below_none, some_below_out, some_below_same, some_below_some}
pub use Rattle.uring_entry.proofs.GroupEvents.{entry_same, first_broken_accepted, first_broken_elsewhere, first_broken_ended, first_broken_more, first_member_more, first_member_none, first_member_same, group_accepted, group_ended, group_joined, group_new, is_last_cut, is_last_cut_last}
pub use Rattle.uring_entry.proofs.GroupLemmas.{after_is, first_member_inside, groups_apart, in_group_member, joined_member}
pub use Rattle.uring_entry.proofs.RequestLemmas.{added_other, entry_of_accepted_at, entry_of_accepted_other, has_ended_other, has_ended_same, has_failed_accepted, has_failed_other, has_failed_same, has_failed_unended, is_in_own_group, is_joined_no, is_joined_yes, is_running_ended_same, is_running_started_other, is_running_started_same}
pub use Rattle.uring_entry.specs.Below.{all_below, count_below, least_below, some_below}
pub use Rattle.uring_entry.specs.Groups.{IsGroup, first_broken, is_before}
unfoldable pub use Rattle.uring_entry.specs.Groups.{first_member}
pub use Rattle.uring_entry.specs.Layout.{Sqe, addr_of, user_data_of}
pub use Rattle.uring_entry.specs.Preparation.{fault_of, is_cancel_all, is_faulty, operation_of}
pub use Rattle.uring_entry.specs.Requests.{Requests, entry_of, has_ended, has_failed, has_started, is_in_group, is_last, is_linked, is_outstanding, is_running, is_soft, least_of, no_bytes, no_request, outstanding_in, running_in, with_accepted, with_cut, with_ended, with_started}
unfoldable pub use Rattle.uring_entry.specs.Requests.{is_after_failure, is_joined}
pub use Rattle.uring_entry.specs.Success.{is_success}
pub use Rattle.uring_linux.specs.Counts.{HasAccepted, HasEnded, HasFinished, HasStarted}
pub use Rattle.uring_linux.specs.Drains.{Drains, deferred_with, from_drain, is_among, is_in_some, is_none, no_drains, still_deferred, with_deferred, with_ring}
pub use Rattle.uring_linux.specs.Groups.{IsGrouped, IsMember, Starts, TellsGroup, if_before, with_end, with_member}
pub use Rattle.uring_linux.specs.Issues.{ended_with, issued, issued_ready, posts_as, posts_of}
pub use Rattle.uring_linux.specs.KeptDrains.{KeptDrains, accepted_drains, cut_drains, with_request}
pub use Rattle.uring_linux.specs.LinuxDispatch.{IsDispatch, LinuxDispatch, ShowsRequests, dispatch_of}
pub use Rattle.uring_linux.specs.LinuxRequests.{LinuxRequests, after_going_on, asks_to_drain, asks_to_skip, breaker_of, cancel_result, comes_past, doomed_result, goes_on, has_fault, has_skipped, is_deferred, is_doomed, is_found, is_issuable, is_let_in, is_refused_drain, keeps_back, next_of, posts_after, with_group, with_last_entry}
unfoldable pub use Rattle.uring_linux.specs.LinuxRequests.{first_of, found_by, is_alone, is_faulty_from, is_in_faulty_group, is_in_turn}
pub use Rattle.uring_linux.specs.LinuxWhy.{doom_of, faulty_member_of, kept_back_by, least_free_of, why_of}
pub use Rattle.uring_linux.specs.Window.{IsAmid, IsNew, IsOpen, IsOver, IsWithin, Lessens, Shows, Tells, Window, end_of, is_unended, new_request, passes, runs, said}
unfoldable pub use Rattle.uring_linux.specs.Window.{at, running_among, unended_among}
pub use Rattle.uring_linux.specs.declared.deferred.Deferred.{Deferred}
pub use Rattle.uring_linux.specs.declared.group.Group.{Group}
pub use Rattle.uring_linux.specs.declared.request.Request.{Request}
pub use Rattle.uring_linux.specs.declared.request.Test.TheVariants.{Faulty, Unended}
