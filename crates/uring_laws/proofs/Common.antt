-- The names that several of these files cite, passed on from one place. Declares nothing.
pub use Rattle.std.proofs.lemmas.Bool.{and_from, and_parts, and_right, both_ways, cases_Bool, cases_eq, cases_lt, cond-true, cond_both, eq-eqb, eqb-true, false_from_ne_true, le-ltb, leb-true, lt-ltb, ltb-false, not-false, not-true, or_cases, or_from, or_left, or_parts, or_right, true_from_ne_false, true≢false}
pub use Rattle.std.proofs.lemmas.Bool.Decides.{Decides-int_eq}
pub use Rattle.std.proofs.lemmas.Grind.{common_steps}
pub use Rattle.std.proofs.lemmas.List.{get_or-append_right, get_or-drop, get_or-map, get_or_append_left, length-append, length-drop, length-map, length-take, length-take-le, length_push, map-append, reverse-append, take-append-drop, take-append-le, take-take, take_at, take_more}
pub use Rattle.std.proofs.lemmas.List.Elements.{All-cons, All-head, All-nil, All-tail, filter_map-append}
pub use Rattle.std.proofs.lemmas.List.Sums.{sum_by-cons, sum_by_push}
pub use Rattle.std.proofs.lemmas.Option.{get_or_from_slice_get, slice_get-get_or, slice_get_within}
pub use Rattle.std.specs.List.{enumerate_from, filter, filter_map, list_any, zip}
pub use Rattle.std.specs.Ordering.{int_eq}
pub use Rattle.std.specs.Prelude.{All, if◌then◌else◌, nat_lt, slice_get, slice_set, ◌↔◌, ◌⊎◌}
pub use Rattle.uring_core.proofs.ByRules.{of_manual}
pub use Rattle.uring_core.proofs.Changes.{Change, cancels, change_of, dooms, finishes, refuses, runs}
pub use Rattle.uring_core.proofs.FileHistory.{files_ended, files_kept}
pub use Rattle.uring_core.proofs.Groups.{doom_kept, entry_kept, join_kept, longer, member_kept}
pub use Rattle.uring_core.proofs.LinuxHistories.{by_linux, history_happens}
pub use Rattle.uring_core.proofs.ListCounts.{any_kept, any_looser, any_new, count_none, count_some}
pub use Rattle.uring_core.proofs.Moves.{Move, accepts, ends_cancel, ends_run, move_of, starts}
pub use Rattle.uring_core.proofs.RequestEnds.{IsChoice, any_both, choice_of, chose, doomed_fails, end_doom, ended_as, no_choice}
pub use Rattle.uring_core.proofs.Sound.{IsSound, sound_of}
pub use Rattle.uring_core.proofs.SoundRequests.{IsSoundRequests, outstanding_tells, waited}
pub use Rattle.uring_core.proofs.SoundRings.{IsSoundCompletions, IsSoundSubmission}
pub use Rattle.uring_core.proofs.SubmissionMoves.{SubmissionMove, begins, closes, drops, stages, stays, stores, submission_move, takes}
pub use Rattle.uring_core.specs.CalledFor.{CalledFor, EndsOn, IsLawful, files_after, files_of}
pub use Rattle.uring_core.specs.Events.{Chose, accepted_by, closes_call, closes_ring, is_load_cq_tail, opened_by, opens_call, takes_in, takes_last, takes_position}
pub use Rattle.uring_core.specs.Histories.{Event, History, IsLawfulApart, by_manual, history_of, world}
pub use Rattle.uring_core.specs.StepAnswers.{CalledForApart, FinishesApart, IsEnded, OrAgain, begin_answer, issue_answer, next_answer_of, place_answer}
pub use Rattle.uring_core.specs.Stops.{open_taken, reached, taken_entries}
pub use Rattle.uring_core.specs.World.{World, happens, requests_of, with_end_of}
pub use Rattle.uring_core.specs.declared.answer.Answer.{Answer}
pub use Rattle.uring_core.specs.declared.step.Step.{Step}
pub use Rattle.uring_entry.proofs.BelowLemmas.{IsLeast, is_some_least_below, least_below_none, least_below_out, least_below_same, least_below_some, least_below_tells, some_below_between, some_below_in, some_below_none, some_below_out, some_below_same, some_below_some}
pub use Rattle.uring_entry.proofs.EventLemmas.{is_after_failure_from, is_after_failure_tells, is_doomed_started, is_draining_started, is_joined_ended, is_joined_started}
pub use Rattle.uring_entry.proofs.RequestLemmas.{all_success, entry_of_accepted_at, has_ended_other, has_ended_same, has_failed_other, is_joined_inside, is_joined_no, is_joined_yes, is_ready_inside, is_running_ended_other, is_running_started_other, is_running_started_same, least_of_goes_on, list_any_push, target_there}
pub use Rattle.uring_entry.specs.Below.{all_below, least_below}
pub use Rattle.uring_entry.specs.Completions.{Completions, no_completion, with_posted}
pub use Rattle.uring_entry.specs.Layout.{Cqe, Sqe, zero_entry}
pub use Rattle.uring_entry.specs.Preparation.{fault_of, is_cancel, is_faulty, operation_of}
pub use Rattle.uring_entry.specs.Requests.{Ending, Requests, cancel_result, chosen_by, doomed_result, entry_of, has_ended, has_failed, has_started, holds_back, is_cancelled, is_candidate, is_drain, is_draining, is_in_group, is_issuable, is_last, is_linked, is_outstanding, is_running, is_target, least_of, no_bytes, result_for, waits_for, with_call, with_ended, with_issued_end, with_started}
unfoldable pub use Rattle.uring_entry.specs.Requests.{is_after_failure, is_doomed, is_joined, is_ready, some_member, target_of, targets_of}
pub use Rattle.uring_entry.specs.Setup.{IsWithinLimits, Setup}
pub use Rattle.uring_entry.specs.Submission.{Call, IsItem, Place, Published, Submission, accepted, bad_word, dropped, dropped_in, entries_from, entries_of, item_of, place_of, published_items, staged, taken, with_entry}
pub use Rattle.uring_entry.specs.Why.{failed_member_of, faulty_member_of, first_doom, holder_of, is_failure_before, is_faulty_member, since_of, why_of}
pub use Rattle.uring_entry.specs.declared.errno.TheConstants.{ECANCELED, ENOMEM}
pub use Rattle.uring_entry.specs.declared.operation.Op.{Op}
pub use Rattle.uring_entry.specs.declared.operation.Op.TheVariants.{Cancel, Fsync, Write}
pub use Rattle.uring_entry.specs.declared.operation.Outcome.{Outcome}
pub use Rattle.uring_files.specs.Contents.{FileContents, overwritten, read_outcome, with_writes_synced}
pub use Rattle.uring_files.specs.Done.{AreDone, Done, files_left}
pub use Rattle.uring_files.specs.Operations.{IsOutcome, after, ended_with, file_of, is_lengthening, on_file, result_of, with_changed}
pub use Rattle.uring_laws.specs.Direct.{before_last, call_counts, completion_of, cut_counts, entries_taken, has_stopped, loaded_head, open_call, open_count, positions_taken, published_entry, published_words, slot_content, staged_words, sums_from, taken_since, told}
pub use Rattle.uring_laws.specs.Finishes.{FileByItsEnds, FilesByOperations, FilesByPlace, IsByFile, LawfulByOperations, PlacesJoin, done_at, done_in, ends_of, first_files}
pub use Rattle.uring_laws.specs.HistoryLists.{IsChosenIn, OwnCancelled, OwnCompletions, OwnPosted, OwnRequests, OwnSubmission, posts_told, put_count}
pub use Rattle.uring_laws.specs.Laws.{EachEndsOnce, LeastCanGoOn, LinksAndDrainsHold, ReapedBeginPosted, TakenOnceInOrder, in_overflow, in_ring, times_ended}
pub use Rattle.uring_laws.specs.LinuxLaws.{CancelledWereDoomed, CancelsDoomNobody, DeferredDontStart, DoomedNeverRun, DoomedStayDoomed, DrainsHold, IsStart, LeastFreeGoesOn, MembersGoInOrder, drains, is_first, is_owed_by, may_take, owes_drain, takes_drain}
pub use Rattle.uring_laws.specs.Standing.{CallCloses, CallOpens, FreeSlotIsFilled, ItemsArePublished, PositionIsTaken, Stands, TailPublishes, TakesWholeCall, WordIsStaged, after_items, in_call, item_answers, item_steps, with_item, with_items}
pub use Rattle.uring_laws.specs.Swaps.{AlikeAnswerAlike, AlikeGoOnAlike, ApartDontMeet, AreAlike, ChangeAnywhere, ChangePlaces, DontMeet, DoomedEndsChange, EndThenStart, Ends, FinishesChange, HaveSame, IsIssue, IsOnRest, IsOnRings, IsOnSubmission, PostsNothing, ReorderedAlike, RestThenSubmission, RingsThenStart, StandAlike, StartThenEnd, StartThenRings, StartsChange, SubmissionThenRest, are_on_others, start_of, stay_apart_on_one, swapped, unchanged}
pub use Rattle.uring_linux.proofs.Deferring.{HasGoneOn, held_by, not_alone, not_doomed}
pub use Rattle.uring_linux.proofs.FaultsKept.{FaultsKept, accepted_faults, cut_faults, faulty_ended, group_faulty, healthy_from, joined_kept, right_kept}
pub use Rattle.uring_linux.proofs.InOrder.{InOrder, among_tells, drain_before, in_pushed, order_above, order_higher, order_kept, order_push, order_still, pushed_new, pushed_old, ring_off, still_fewer}
pub use Rattle.uring_linux.proofs.Reaching.{IsBetween, IsSettled, accepted_settled, all_between}
pub use Rattle.uring_linux.specs.Drains.{Drains, deferred_with, from_drain, is_in_some, still_deferred, with_deferred, with_ring}
pub use Rattle.uring_linux.specs.Happenings.{End, Happening, MayHaveHappened, Start, made_by, with_entries}
pub use Rattle.uring_linux.specs.LinuxRequests.{LinuxRequests, after_going_on, breaker_of, has_fault, is_deferred, is_found, is_granted_drain, is_let_in, is_refused_drain, keeps_back, posts_after, with_accepted, with_cut, with_group, with_last_entry}
unfoldable pub use Rattle.uring_linux.specs.LinuxRequests.{first_of, found_by, is_alone, is_faulty_from, is_in_faulty_group, is_in_turn}
pub use Rattle.uring_linux.specs.declared.deferred.Deferred.{Deferred}
pub use Rattle.uring_rules.specs.Rules.{drains_called, drains_ended, ends_doomed, may_start, posts}
