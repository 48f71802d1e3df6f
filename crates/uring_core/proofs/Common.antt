-- The names that several of these files cite, passed on from one place. Declares nothing.
pub use Rattle.std.proofs.lemmas.Bool.{and_cases, and_from, and_left, and_parts, both_ways, cases_Bool, cases_lt, cond_both, eq-eqb, eqb-true, false_from_ne_true, le-leb, le-ltb, lt-leb, lt-ltb, ltb-true, ne_eqb, not-true, or_cases, or_from, or_left, true≢false}
pub use Rattle.std.proofs.lemmas.Grind.{common_steps, drop_more_same}
pub use Rattle.std.proofs.lemmas.Int.{to_z-of_z}
pub use Rattle.std.proofs.lemmas.List.{append-nil, drop-set-lt, get_or_append_left, length-append, length-map, length-take-le, length_push, reverse-append, take-append-le, take_more}
pub use Rattle.std.proofs.lemmas.List.Sums.{sum_by-cons, sum_by_push}
pub use Rattle.std.proofs.lemmas.Option.{cond_some, get_or_from_slice_get, slice_get_within}
pub use Rattle.std.specs.Int.{w32}
pub use Rattle.std.specs.List.{cons_option, list_any, zip}
pub use Rattle.std.specs.Option.{option_and_then, option_to_list}
pub use Rattle.std.specs.Ordering.{int_eq}
pub use Rattle.std.specs.Prelude.{Err, IsOk, Ok, OnErr, OnOk, Result, int_le, is_err}
pub use Rattle.uring_core.specs.Core.{Core, FitsApart, HasNoLessMemory, IsCore, IsFinished, IsNoFinish, IsShortFor, ShowsWorld, elements_for_call, held_by, positions_of}
pub use Rattle.uring_core.specs.Events.{Chose, accepted_by, closes_call, closes_ring, end_told_by, entry_taken_by, filled_by, is_flush, is_load_cq_tail, is_load_head, is_store_cq_head, is_store_tail, opened_by, opens_call, reaped_by, staged_by, started_by, takes_in, takes_position}
pub use Rattle.uring_core.specs.Histories.{Event, History, IsLawfulApart, by_manual, history_of, world}
pub use Rattle.uring_core.specs.StepAnswers.{CalledForApart, FinishesApart, IsEnded, IsIssued, OrAgain, begin_answer, end_answer_in, entry_answer, fill_answer, is_spent, issue_answer, next_answer_of, place_answer, reap_answer_of, take_answer, take_answer_in}
pub use Rattle.uring_core.specs.Stops.{open_taken, some_skips, stops_after, stops_at_word, taken_entries}
pub use Rattle.uring_core.specs.Told.{begin_told, end_told, fill_told, index_told, issue_told, take_told, with_told}
pub use Rattle.uring_core.specs.WholeCalls.{IsMadeAsTold, after_begin, after_entries, after_fill, after_head, after_index, after_published, after_reaps, after_refused, after_takes}
pub use Rattle.uring_core.specs.World.{World, at_first, ending_of, filling, happens, reaping, requests_of, staging, taking_entry_of, taking_of, taking_on, with_end_of}
pub use Rattle.uring_core.specs.declared.answer.Answer.{Answer}
pub use Rattle.uring_core.specs.declared.step.Step.{Step}
pub use Rattle.uring_entry.proofs.RequestLemmas.{all_success, has_ended_other, has_ended_same, is_doomed_after, is_doomed_cancelled, is_doomed_faulty, is_doomed_own_fault, is_joined_no, is_ready_inside, list_any_push, never_success, one_success, target_in}
pub use Rattle.uring_entry.specs.Completions.{Completions, next_to_reap, no_completion, with_flushed, with_head_stored, with_posted, with_reaped, with_tail_loaded}
pub use Rattle.uring_entry.specs.IndexWords.{word_of}
pub use Rattle.uring_entry.specs.Layout.{Cqe, Sqe, zero_entry}
pub use Rattle.uring_entry.specs.Preparation.{is_cancel, is_cancel_all, is_faulty, operation_of}
pub use Rattle.uring_entry.specs.Requests.{Ending, Requests, cancel_result, choices_of, chosen_by, doomed_result, entry_of, has_ended, has_started, is_cancelled, is_in_group, is_last, is_outstanding, is_ready, is_running, no_bytes, no_request, operation_running, outstanding_in, target_of, targets_of, waits_for, with_call, with_ended, with_issued_end, with_started}
unfoldable pub use Rattle.uring_entry.specs.Requests.{is_after_failure, is_doomed, is_joined, some_member}
pub use Rattle.uring_entry.specs.Setup.{Setup}
pub use Rattle.uring_entry.specs.Submission.{Call, Place, Submission, call_length, dropped, entries_from, entries_of, is_busy, is_full, no_submission, pending, places_from, staged, taken, with_begun, with_closed, with_filled, with_head_loaded, with_published, with_staged, with_stopped, with_taken}
pub use Rattle.uring_entry.specs.declared.operation.Op.{Op}
pub use Rattle.uring_linux.specs.LinuxRequests.{LinuxRequests, asks_to_skip, is_refused_drain}
pub use Rattle.uring_rings.specs.Cq.{Cq, KeepsMemory, ShowsCompletions, after_reap}
pub use Rattle.uring_rings.specs.Sq.{ShowsSubmission, Sq}
pub use Rattle.uring_rules.specs.Rules.{ends_doomed, is_issuable, may_start, next_of}
