-- The names that several of these files cite, passed on from one place. Declares nothing.
pub use Rattle.std.proofs.lemmas.Bool.{and_parts, false_from_ne_true}
pub use Rattle.std.proofs.lemmas.List.{append_cancel_left, append_cancel_right, length-append, length-drop, length-map, reverse-append, reverse-reverse, take-append-drop, take_all, take_more}
pub use Rattle.std.proofs.lemmas.Option.{get_or_from_slice_get, same_Some, slice_get-get_or, slice_get-map, slice_get_within}
pub use Rattle.std.proofs.lemmas.Result.{IfOk-weaker}
pub use Rattle.std.proofs.lemmas.Slice.Eq.{bytes_eq-Decides, strip_prefix_is}
pub use Rattle.std.specs.Prelude.{MatchOption, codes, decimal, option_map, reverse, slice_get, ◌==◌}
pub use Rattle.uring_check.proofs.Splitting.{bad_none, record_once, recorded}
pub use Rattle.uring_check.specs.Records.{IsNoRecord, IsPassed, IsRecord}
pub use Rattle.uring_check.specs.SetupLines.{IsSaid, setup_text}
pub use Rattle.uring_core.specs.Core.{Core, FitsApart, IsNoFinish}
pub use Rattle.uring_core.specs.Histories.{Event, History, IsLawfulApart, history_of, world}
pub use Rattle.uring_core.specs.StepAnswers.{CalledForApart, FinishesApart, OrAgain, begin_answer}
pub use Rattle.uring_core.specs.World.{World, beginning, closing, ending, ending_of, filling, finishing, happens, issuing, reaping, requests_of, staging, taking, taking_entry_of, taking_of}
pub use Rattle.uring_core.specs.declared.answer.Answer.{Answer}
pub use Rattle.uring_core.specs.declared.step.Step.{Step}
pub use Rattle.uring_effect_points.specs.Bare.{IsFoundBare, bare, blank, blank_answer, blank_completion}
pub use Rattle.uring_entry.specs.Layout.{Cqe, Sqe}
pub use Rattle.uring_entry.specs.Requests.{Requests, is_running, no_bytes}
pub use Rattle.uring_entry.specs.Setup.{Setup}
pub use Rattle.uring_entry.specs.Submission.{Call, Submission, entries_from}
pub use Rattle.uring_reconstruct.specs.Filling.{Begins, IsFilling, is_hidden, seen_in}
pub use Rattle.uring_observed_text.specs.Seen.{AreShown, Fills, IsBare, Shows, visible}
pub use Rattle.uring_observed_text.specs.Sights.{ArePaired, HasNoAnswer, IsAnsweredAs, IsBadLine, IsCompletion, IsFollowed, IsGuess, IsGuessed, IsHiddenLine, IsNoCompletion, IsOnly, IsParted, IsSeenAs, IsShownIf, IsSight, IsSightOfNone, IsUnparted, MayShow, Reads, ShowsNever, is_submitting, submitted}
pub use Rattle.uring_observed_text.specs.Told.{AreLinesOf, HasNoFilling, IsAnswered, IsFar, IsFaulty, IsLineOf, IsToldBy, IsToldOf, Names, SaysFirst, Tells, TellsFar, lines_in}
pub use Rattle.uring_observed_text.specs.Written.{AreWritten, CompletesTo, HasNoBytes, HasText, IsCompleted, IsEarlyBy, IsEarlyIn, IsEarlyOf, IsEarlyText, IsFinishAnswer, IsNeverWritten, IsOnlyWritten, IsPadded, IsSized, IsWritten, IsWrittenAs, IsWrittenSight, ReadsWritten, early_of, front_of}
pub use Rattle.uring_observed_text.specs.declared.sight.Sight.{Sight}
pub use Rattle.uring_text.specs.Spelling.{AreBytes, IsFile, IsNoNumber, SpellsNumber}
pub use Rattle.uring_trace.proofs.ExplainLines.{if_ok_both}
pub use Rattle.uring_trace.specs.Text.{text_of}
