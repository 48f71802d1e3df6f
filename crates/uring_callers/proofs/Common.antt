-- The names that several of these files cite, passed on from one place. Declares nothing.
pub use Rattle.std.proofs.lemmas.Bool.{and_from, and_left, and_parts, and_right, cases_eq, not-true, not_from_false, or_from, or_left, or_right}
pub use Rattle.std.proofs.lemmas.List.{append-nil, take_all, take_more}
pub use Rattle.std.specs.List.{slice_get, zip}
pub use Rattle.uring_core.specs.Histories.{History, IsLawfulApart, history_of, world}
pub use Rattle.uring_core.specs.StepAnswers.{IsEnded, OrAgain, begin_answer, issue_answer, next_answer_of}
pub use Rattle.uring_core.specs.World.{World, requests_of}
pub use Rattle.uring_core.specs.declared.answer.Answer.{Answer}
pub use Rattle.uring_entry.proofs.RequestLemmas.{has_ended_other, has_ended_same, has_failed_same, is_doomed_after, is_joined_inside, is_joined_yes, is_ready_inside, is_running_ended_other, is_running_ended_same, is_running_started_other, is_running_started_same, never_success}
pub use Rattle.uring_entry.specs.Requests.{Requests, has_ended, is_after_failure, is_joined, is_outstanding, is_running, least_of, no_bytes, operation_running, outstanding_in, waits_for, with_ended, with_started}
pub use Rattle.uring_entry.specs.Setup.{IsWithinLimits, Setup}
pub use Rattle.uring_linux.specs.LinuxRequests.{keeps_back}
unfoldable pub use Rattle.uring_linux.specs.LinuxRequests.{is_in_turn}
pub use Rattle.uring_rules.specs.Rules.{ends_doomed, with_issued_end}
pub use Rattle.uring_callers.specs.Simulations.{HasRun, IsIdle, IsNextInChain, NoneRuns}
