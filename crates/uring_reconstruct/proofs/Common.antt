-- The names that several of these files cite, passed on from one place. Declares nothing.
pub use Rattle.std.proofs.lemmas.Bool.{and_from, and_left, cases_Bool, cases_lt, eq-eqb, false≢true, le-leb, lt-leb, not-false, not-true, or_parts, or_right}
pub use Rattle.std.proofs.lemmas.Int.{to_z-of_z}
pub use Rattle.std.proofs.lemmas.List.{length-drop, length-map, length_push, map-append, reverse-reverse, take-append-drop, take_all, take_more}
pub use Rattle.std.proofs.lemmas.List.Elements.{Contains-append_cases, Contains-append_left, Contains-append_right, Contains-push, Contains-push_cases, filter_map-append}
pub use Rattle.std.proofs.lemmas.Result.{IfOk-weaker}
pub use Rattle.std.specs.Int.{w32}
pub use Rattle.std.specs.Prelude.{Contains, drop, is_some, nat_le, neg_ℤ, reverse, slice_get}
pub use Rattle.uring_core.proofs.Following.{history_of_cons, history_of_snoc}
pub use Rattle.uring_core.specs.Core.{Core, FitsApart}
pub use Rattle.uring_core.specs.Histories.{Event, History, IsLawfulApart, history_of, world}
pub use Rattle.uring_core.specs.StepAnswers.{CalledForApart, FinishesApart}
pub use Rattle.uring_core.specs.World.{World, happens, requests_of}
pub use Rattle.uring_core.specs.declared.answer.Answer.{Answer}
pub use Rattle.uring_core.specs.declared.step.Step.{Step}
pub use Rattle.uring_entry.specs.Completions.{Completions, completion_for, put_by_flush, with_flushed, with_posted}
pub use Rattle.uring_entry.specs.Layout.{Cqe, Sqe}
pub use Rattle.uring_entry.specs.Requests.{Requests, count_result, entry_of, entry_outstanding, is_drain, is_outstanding, is_running, no_bytes, outstanding_in}
unfoldable pub use Rattle.uring_entry.specs.Requests.{is_after_failure, targets_of}
pub use Rattle.uring_entry.specs.Setup.{Setup}
pub use Rattle.uring_entry.specs.Success.{is_success, posts_completion}
pub use Rattle.uring_reconstruct.specs.Filling.{Begins, GiveAllowed, GivesAllowed, IsFilling, IsPart, completions_in, is_hidden, seen_in}
pub use Rattle.uring_reconstruct.specs.Parts.{Adds, AreAllNext, AreNext, FinishFits, GoesOn, HasEndsOf, HasLonger, IsErrorOf, IsIdle, IsReach, IsSearch, IsWhole, OneGoesOn, QuietResult, StandsAt, TellsNext, is_asked, is_stale, onto, paths_of, with_count, with_error, with_none}
pub use Rattle.uring_rules.specs.Rules.{cancel_result, doomed_result, ends_doomed, is_issuable, issuable_from, may_start, posts}
