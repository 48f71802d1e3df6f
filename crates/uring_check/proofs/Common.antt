-- The names that several of these files cite, passed on from one place. Declares nothing.
pub use Rattle.std.proofs.lemmas.Bool.{both_ways, cases_lt, false≢true, le-leb, lt-leb, true≢false}
pub use Rattle.std.proofs.lemmas.List.{append-nil, append_cancel_right, drop_more, length-append, take-append-drop, take_all, take_more}
pub use Rattle.std.proofs.lemmas.Result.{IfOk-weaker, on_ok_weaker}
pub use Rattle.std.specs.Fmt.{decimal, signed_decimal}
pub use Rattle.std.specs.Prelude.{IsErrOf, IsTrue, codes, if◌then◌else◌, nat_le, string_bytes, ℤ, ◌↔◌}
pub use Rattle.uring_check.specs.Checking.{FitsBy, Has, HasOneAnswer, Holds, IsEither, IsJudged, IsOneJudged, IsSplit, IsStanding, IsTold, IsUnsplit, IsWanted, Judges, Knows, Looked, Looks, LooksAt, LooksBy, LooksIf, ReadsIn, noted_poster, number_in, reasons_by, rules_of}
pub use Rattle.uring_check.specs.Findings.{AreFound, Finding, Found, IsFinding, IsWrongText, first_fault, has_stopped, history_after, judged, lines_of, verdict_of, with_finding}
pub use Rattle.uring_check.specs.Posters.{poster_of, posters}
pub use Rattle.uring_check.specs.Records.{AreRecorded, IsLawfulText, IsNoRecord, IsRecord}
pub use Rattle.uring_check.specs.Reports.{closing, completion_wanted, counted_with, line_text, missed_text, wanted_text, why_bad}
pub use Rattle.uring_check.specs.Rules.{AllowedBy, CalledBy, CalledIn, IsCalled, IsLawfulBy, IsPlain, MayGive, Rules, entry_asked, entry_in, is_apart}
pub use Rattle.uring_check.specs.SetupLines.{IsSaid, IsSaidBy, IsSaidOf, MissesSetup, begins_setup, end_text, sizes_in, sizes_said}
pub use Rattle.uring_check.specs.declared.checker.Checker.{Checker}
pub use Rattle.uring_check.specs.declared.ends.Ends.{Ends}
pub use Rattle.uring_check.specs.declared.follower.Follower.{Follower}
pub use Rattle.uring_check.specs.declared.verdict.Verdict.{Verdict}
pub use Rattle.uring_core.specs.Histories.{History, IsLawfulApart, world}
pub use Rattle.uring_core.specs.Recorded.{IsWrong, Meets, resumed}
pub use Rattle.uring_core.specs.StepAnswers.{CalledForApart, FinishesApart, IsEnded, OrAgain, begin_answer}
pub use Rattle.uring_core.specs.World.{World}
pub use Rattle.uring_core.specs.declared.answer.Answer.{Answer}
pub use Rattle.uring_core.specs.declared.step.Step.{Step}
pub use Rattle.uring_core.specs.declared.wanted.Wanted.{Wanted}
pub use Rattle.uring_core.specs.declared.wanted.Wanted.TheVariants.{AnyEnd, CallOrAgain, EndOrNoMemory, Only}
pub use Rattle.uring_entry.specs.Requests.{Requests, entry_of, is_running, no_bytes}
pub use Rattle.uring_entry.specs.Setup.{IsBadCq, IsBadFiles, IsBadSq, Setup}
pub use Rattle.uring_entry.specs.declared.errno.TheConstants.{ENOMEM}
pub use Rattle.uring_trace.proofs.ExplainLines.{if_ok_both}
pub use Rattle.uring_trace.specs.Text.{text_of}
