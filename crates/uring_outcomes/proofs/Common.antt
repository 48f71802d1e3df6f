-- The names that several of these files cite, passed on from one place. Declares nothing.
pub use Rattle.std.proofs.Math.ListN.{get_or-eq_default, get_or-map}
pub use Rattle.std.proofs.Math.Seq.{drop-append_seam, drop-cons, take-add, take-append_seam, take-length}
pub use Rattle.std.proofs.lemmas.Bool.{and_from, and_parts, both_ways, cases_Bool, cases_lt, cond-false, cond-true, eq-eqb, eqb-true, false_from_ne_true, false≢true, le-leb, le-ltb, leb-true, lt-ltb, ltb-true, ne_eqb, not-false, not-true, or_right}
pub use Rattle.std.proofs.lemmas.Int.{to_z-of_z}
pub use Rattle.std.proofs.lemmas.List.{drop-map, drop_all, get_or-append-add, get_or-append_right, get_or_append_left, get_or_default, get_or_push, length-append, length-drop, length-map, length-replicate, length-take-le, length_push, map-append, take-append-drop, take-append-le, take-map, take_all, take_more}
pub use Rattle.std.proofs.lemmas.List.Elements.{All-cons, All-head, All-more, All-nil, All-push, All-tail, Contains-append_left, Contains-append_right, Contains-get_or, Contains-push, Contains-push_cases}
pub use Rattle.std.proofs.lemmas.Option.{get_or_from_slice_get, none-some, same_Some, slice_get-get_or, slice_get_within}
pub use Rattle.std.specs.Int.{IsPowerOfTwo, w32}
pub use Rattle.std.specs.Option.{option_and_then, option_map, option_to_list}
pub use Rattle.std.specs.Prelude.{All, Contains, IfErr, IsErrAnd, IsSomeAnd, is_none, nat_eq, neg_ℤ, slice_get, unwrap_or}
pub use Rattle.std.specs.declared.alloc.Global.{Global}
pub use Rattle.std.specs.declared.vec.Vec.{Vec}
pub use Rattle.uring_core.proofs.Groups.{call_manual, call_sound, doom_kept, entry_kept, longer}
pub use Rattle.uring_core.specs.CalledFor.{CalledFor, EndsOn, IsLawful, files_of}
pub use Rattle.uring_core.specs.Histories.{History, by_manual, world}
pub use Rattle.uring_core.specs.StepAnswers.{OrAgain, begin_answer, end_answer, fill_answer, index_answer, is_spent, issue_answer, place_answer, reap_answer_of, take_answer}
pub use Rattle.uring_core.specs.World.{World, at_first, happens, taking_entry_of, taking_of}
pub use Rattle.uring_core.specs.declared.answer.Answer.{Answer}
pub use Rattle.uring_dispatch.specs.Dispatch.{Dispatch, FinishCounts, ShowsRequests}
pub use Rattle.uring_entry.proofs.BelowLemmas.{least_below_same, least_below_some, least_below_tells}
pub use Rattle.uring_entry.proofs.RequestLemmas.{is_doomed_own_fault, list_any_push}
pub use Rattle.uring_entry.specs.Layout.{Cqe, Sqe, addr_of, user_data_of, zero_entry}
pub use Rattle.uring_entry.specs.Preparation.{fault_of, is_cancel, is_cancel_all, operation_of}
pub use Rattle.uring_entry.specs.Requests.{Requests, cancel_result, chosen_by, count_result, doomed_result, entry_of, entry_outstanding, has_ended, has_started, is_candidate, is_issuable, is_outstanding, is_running, is_target, no_bytes, no_request, operation_running, outstanding_in, result_for, with_call, with_ended, with_issued_end, with_started}
unfoldable pub use Rattle.uring_entry.specs.Requests.{is_after_failure, is_doomed, is_joined, is_ready, some_member, target_of, targets_of}
pub use Rattle.uring_entry.specs.Setup.{Setup}
pub use Rattle.uring_entry.specs.Submission.{Call, Place, Published, Submission, bad_word, call_length, dropped, dropped_in, entries_from, item_of, place_of, places_from, published_items, staged, taken, with_entry, with_published}
pub use Rattle.uring_entry.specs.declared.operation.Op.{Op}
pub use Rattle.uring_entry.specs.declared.operation.Outcome.{Outcome}
pub use Rattle.uring_files.specs.Contents.{FileContents, empty_file, empty_files, max_len}
pub use Rattle.uring_files.specs.Operations.{IsForFiles, IsOutcome, after, byte_of, file_of, result_of, state_of}
pub use Rattle.uring_outcomes.specs.CallOutcomes.{CallsOutcome, ComesTo, IsOver, RefusesNone, bad_in, entries_in, entry_in, is_bad, items_in}
pub use Rattle.uring_outcomes.specs.Direct.{AreDirect, AreUnnamed, DirectMovesLead, IsDirect, IsNextUnnamed}
pub use Rattle.uring_outcomes.specs.Faults.{IsReason, StoppedWith, TookPaths, entry_count}
pub use Rattle.uring_outcomes.specs.Index.{HasPlace, IsIndexed, NotesPlace, mark_of}
pub use Rattle.uring_outcomes.specs.Moments.{Moment, accepted, after_moves, ended_at_once, finished, is_finishable, issued, moved, posted_with, started, starting}
pub use Rattle.uring_outcomes.specs.Outcomes.{AreAllEndings, AreEndings, AreOnce, CanEnd, Ending, ending_of}
pub use Rattle.uring_outcomes.specs.Prompt.{AreNamed, ArePrompt, IsPrompt, NamesAll, PromptMovesLead, is_named}
pub use Rattle.uring_outcomes.specs.Recorded.{moves_in, with_event}
pub use Rattle.uring_outcomes.specs.Runs.{AreRanked, CanAll, HasBelow, HasNext, IsQuiet, IsReached, LedTo, MadeAs, Stands, StandsAt, among, entries_of, rank}
pub use Rattle.uring_outcomes.specs.Walks.{AddsOnce, BeginsIn, CanCome, HasFound, HasNoted, IsDue, IsSpot, IsStage, paths_of}
pub use Rattle.uring_outcomes.specs.declared.move_of_calls.Move.{Move}
pub use Rattle.uring_outcomes.specs.declared.run.Run.{Run}
