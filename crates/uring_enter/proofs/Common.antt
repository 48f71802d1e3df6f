-- The names that several of these files cite, passed on from one place. Declares nothing.
pub use Rattle.std.proofs.lemmas.Bool.{and_parts, cases_Bool, cases_eq, cases_order, eq-eqb, eqb-false, false≢true, leb-false, leb-true, ne_eqb, not-true, not_from_false, not_from_true, or_parts}
pub use Rattle.std.proofs.lemmas.List.{append_assoc, drop-append-le, drop-drop, drop-map, get_or-map, get_or-take, get_or_default, length-append, length-drop, length-map, length-set, length-take-le, map-append, take_more, take_more_set}
pub use Rattle.std.proofs.lemmas.List.Elements.{All-cons, All-contains, All-contains_itself, All-filter, All-map, All-nil, All-push, All-weaker, Contains-append_left, Contains-append_right, Contains-get_or, Contains-push, Contains-push_cases, filter_passes}
pub use Rattle.std.specs.Int.{bit_at, w32}
pub use Rattle.std.specs.Prelude.{All, Contains, MatchOption, min, ℕ}
pub use Rattle.uring_enter.specs.Call.Due.{due, ended, go_by, going, hearing, is_lazy, is_reply_to, least_over, leaving, looking, returned, stuck, unless_ready, waiting}
pub use Rattle.uring_enter.specs.Call.Laws.{EndsForAReason, GivesUpInVain, IsInVain, LeavesNothing, ReturnsWhatWasSubmitted, SleepsInVain, SubmitsOnce, is_run, is_stuck, saw_enough}
pub use Rattle.uring_enter.specs.Call.Replies.{has_taken_all, is_enough, is_none, looks, submission, waits}
pub use Rattle.uring_enter.specs.Time.Kept.{HasCounted, KeepsTime, counted_found, due_of, earliest_of, nearer, outcome_at}
pub use Rattle.uring_enter.specs.Waiting.Waiters.{Around, Encounter, FoundWaiting, HeardWrite, MissedWrite, RingKnows, Took, WasCancelled, WasSeen, WasUpdated, WouldWait, around, found_in, has_to_wait, is_known, is_seen, seen_in, waited_in}
pub use Rattle.uring_enter.specs.declared.call.asked.Asked.{Asked}
pub use Rattle.uring_enter.specs.declared.call.asked.Policy.{Policy}
pub use Rattle.uring_enter.specs.declared.call.asked.Policy.TheVariants.{ByChoice, InOrder, Lazy}
pub use Rattle.uring_enter.specs.declared.call.command.Command.{Command}
pub use Rattle.uring_enter.specs.declared.call.reply.Reply.{Reply}
pub use Rattle.uring_enter.specs.declared.call.reply.Reply.TheVariants.{Chosen, Endless, Failed, Heard, Interrupted, LeastOver, NotTaken, Stuck, Taken, TimedOut, WentOn, Woken, WrongHead}
pub use Rattle.uring_enter.specs.declared.call.reply.Sight.{Sight}
pub use Rattle.uring_enter.specs.declared.waiting.joining.PollRow.{PollRow}
pub use Rattle.uring_operations.specs.Entries.Timeouts.{AreApart, Changed, Clock, Ended, EndsNone, Event, HasNone, IsDueOf, IsEarliest, IsFirstReached, IsNext, IsNextOf, IsReachedOf, IsRow, NoneIsReached, Passed, Posted, Slept, Started, Stopped, ends_before, has_counted, is_other, is_over, is_reached_by, later, outcome, posted, running, started, time, with_expiry}
pub use Rattle.uring_operations.specs.declared.entries.timeout.Timeout.{Timeout}
