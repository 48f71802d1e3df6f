-- The names that several of these files cite, passed on from one place. Declares nothing.
pub use Rattle.std.proofs.lemmas.Bool.{and_from, and_parts, both_ways, cases_eq, cases_lt, false≢true, ltb-true, not-false, not-true, or_parts}
pub use Rattle.std.proofs.lemmas.List.{take_all, take_more}
pub use Rattle.std.specs.Prelude.{Err, IfErr, IfOk, IsOk, MatchOption, Ok, OnOk, Result, if◌then◌else◌, nat_lt}
pub use Rattle.uring_core.proofs.Following.{follow_next, history_of_append, history_of_cons, history_of_snoc, no_finish, zip_next}
pub use Rattle.uring_core.specs.CalledFor.{CalledFor, EndsOn, IsLawful, files_of}
pub use Rattle.uring_core.specs.Core.{Core, FitsApart, IsFinished, IsNoFinish, IsShortOfMemory, elements_for}
pub use Rattle.uring_core.specs.Histories.{Event, History, IsLawfulApart, history_of, world}
pub use Rattle.uring_core.specs.Recorded.{IsFirstWrongAnswer, IsFirstWrongApart, IsRefused, IsWrong, Meets, resumed}
pub use Rattle.uring_core.specs.StepAnswers.{CalledForApart, IsEnded, IsIssued, next_answer_of}
pub use Rattle.uring_core.specs.World.{World, finishing, issuing, requests_of}
pub use Rattle.uring_core.specs.declared.answer.Answer.{Answer}
pub use Rattle.uring_core.specs.declared.step.Step.{Step}
pub use Rattle.uring_core.specs.declared.wanted.Refusal.{Refusal}
pub use Rattle.uring_entry.proofs.RequestLemmas.{added_other, entry_of_accepted_at, is_running_started_same, least_of_goes_on}
pub use Rattle.uring_entry.specs.Requests.{Requests, entry_of, has_ended, has_started, is_last, is_linked, is_outstanding, is_running, least_of, no_bytes, operation_running, outstanding_in}
pub use Rattle.uring_entry.specs.Setup.{Setup}
pub use Rattle.uring_entry.specs.declared.operation.Outcome.{Outcome}
pub use Rattle.uring_files.specs.Contents.{FileContents, max_len}
pub use Rattle.uring_files.specs.Operations.{IsOutcome, after, ended_with, is_lengthening, result_of}
pub use Rattle.uring_linux.specs.LinuxRequests.{LinuxRequests, after_going_on, is_alone, is_deferred, is_doomed, is_faulty_from, is_in_faulty_group, is_issuable, with_accepted, with_cut, with_ended, with_group, with_last_entry}
pub use Rattle.uring_machine.specs.Machine.{Fits, IsUnrefused, Machine, MayLackMemory, elements_for_step, finish_answer}
pub use Rattle.uring_machine.specs.Settling.{AreSettling, AreUnrefused, HasSettled, IsSettled, IsSettledIf, is_issue_or_finish, started_last}
