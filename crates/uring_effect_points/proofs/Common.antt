-- The names that several of these files cite, passed on from one place. Declares nothing.
pub use Rattle.std.proofs.Math.Seq.{drop-cons}
pub use Rattle.std.proofs.lemmas.Bool.{and_from, and_parts, both_ways, cases_lt, eq-eqb, eqb-true, false_from_ne_true, false≢true, le-leb, le-ltb, not-false, not-true, or_parts, true≢false}
pub use Rattle.std.proofs.lemmas.List.{drop_all, ext_get_or, length-append, length-map, length-replicate, map-append, map-set, reverse-append, reverse-reverse, take-append-drop, take_all, take_more}
pub use Rattle.std.proofs.lemmas.List.Elements.{Contains-append_cases, Contains-append_left, Contains-append_right, Contains-push, Contains-push_cases}
pub use Rattle.std.proofs.lemmas.Option.{get_or_from_slice_get, same_Some, slice_get-get_or, slice_get-map, slice_get_past}
pub use Rattle.std.specs.Option.{option_map}
pub use Rattle.std.specs.Prelude.{Contains, if◌then◌else◌, int_le, is_some, replicate, reverse, slice_get, slice_index_or, slice_set}
pub use Rattle.uring_core.proofs.Changes.{Change, IsSilent, cancels, change_of, closes, dooms, drops, finishes, not_some, refuses, runs, takes}
pub use Rattle.uring_core.proofs.Following.{history_of_append, history_of_cons, history_of_snoc}
pub use Rattle.uring_core.proofs.Sound.{sound_of}
pub use Rattle.uring_core.specs.Core.{FitsApart}
pub use Rattle.uring_core.specs.Events.{end_told_by}
pub use Rattle.uring_core.specs.Histories.{Event, History, IsLawfulApart, history_of, world}
pub use Rattle.uring_core.specs.StepAnswers.{CalledForApart, FinishesApart, issue_answer, next_answer_of, reap_answer_of}
pub use Rattle.uring_core.specs.World.{World, ending, ending_of, happens, requests_of, taking_entry_of, taking_of, with_end_of}
pub use Rattle.uring_core.specs.declared.answer.Answer.{Answer}
pub use Rattle.uring_core.specs.declared.step.Step.{Step}
pub use Rattle.uring_effect_points.specs.Bare.{AreSameButBytes, IsFoundBare, IssueMeets, IssuesMeet, bare, blank, blank_answer, blank_completion, bytes_at, bytes_of, bytes_reaped, bytes_told, known_by, known_mark, known_marks, posted_in}
pub use Rattle.uring_effect_points.specs.Decided.{IsFound, found_by}
pub use Rattle.uring_effect_points.specs.Effects.{EffectsWait, EndsAsTaken, EndsLast, IsLawfulEarly, IsTimely, Makes, Takes, TakesEffect, Timeline, effect_of, effects_in, ends_in_effect, files_at, is_end_of, made_in, operation_at, requests_in}
pub use Rattle.uring_effect_points.specs.Laws.{GiveAllowed, GivesAllowed, IsLawfulLate}
pub use Rattle.uring_effect_points.specs.Marks.{mark_by, marks_after, start_mark}
pub use Rattle.uring_effect_points.specs.Moves.{EndsBy, FitsEnd, Goes, IsWalk, MarkStanding, MayTake, Meets, MeetsBytes, Move, Pass, Passes, Take, at_first, awaits, end_in, look, op_of, passed, plain, taken_by, taken_of, taking, took, with_taken, without}
pub use Rattle.uring_effect_points.specs.Search.{Adds, AreTakers, GoesOn, HasFate, IsFated, IsPlaced, IsSearch, MayTakeAt, OneGoes, PassesAt, Replaces, Seat, awaits_at, left_at, passed_at, seat_of, seats_of, took_at}
pub use Rattle.uring_effect_points.specs.declared.mark.End.{End}
pub use Rattle.uring_effect_points.specs.declared.mark.Mark.{Mark}
pub use Rattle.uring_effect_points.specs.declared.mark.Mark.TheVariants.{Ends, Idle, Starts}
pub use Rattle.uring_effect_points.specs.declared.running.Running.{Running}
pub use Rattle.uring_effect_points.specs.declared.search.Fate.{Fate}
pub use Rattle.uring_effect_points.specs.declared.state.State.{State}
pub use Rattle.uring_effect_points.specs.declared.takers.Taker.{Taker}
pub use Rattle.uring_entry.proofs.RequestLemmas.{is_running_ended_other, list_any_push}
pub use Rattle.uring_entry.specs.Layout.{Cqe, Sqe, len_of}
pub use Rattle.uring_entry.specs.Preparation.{fault_of, is_cancel, is_on_file, is_transfer, operation_of}
pub use Rattle.uring_entry.specs.Requests.{Ending, Requests, chosen_by, entry_of, has_ended, has_started, is_running, no_bytes, operation_running, with_cancelled, with_ended, with_started}
pub use Rattle.uring_entry.specs.Setup.{Setup}
pub use Rattle.uring_entry.specs.declared.operation.Op.{Op}
pub use Rattle.uring_entry.specs.declared.operation.Outcome.{Outcome}
pub use Rattle.uring_files.specs.Contents.{FileContents, empty_file, empty_files}
pub use Rattle.uring_files.specs.Operations.{IsForFiles, IsOutcome, after, ended_with, file_of, is_lengthening, result_of, with_changed}
pub use Rattle.uring_laws.proofs.Growth.{Grows, event_grows, lawful_before}
pub use Rattle.uring_rules.specs.Rules.{cancel_result, doomed_result, drains_called, drains_ended, next_of, posts, with_issued_end}
