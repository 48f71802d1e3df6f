-- The names that several of these files cite, passed on from one place. Declares nothing.
pub use Rattle.std.proofs.lemmas.List.{get_or_append_left, length-append, length-map, length-take, map-append, take-append-drop, take_all, take_more, with_items_is}
pub use Rattle.std.specs.Option.{option_and_then, option_map}
pub use Rattle.std.specs.Prelude.{Contains, IfErr, IfOk, IfSome, IsErrAnd, is_some, slice_get, slice_index_or, unwrap_or}
pub use Rattle.uring_entry.specs.Layout.{Cqe, Sqe}
pub use Rattle.uring_entry.specs.Preparation.{is_cancel, operation_of}
pub use Rattle.uring_entry.specs.Requests.{Requests, cancel_result, doomed_result, entry_of, has_ended, has_started, is_doomed, is_issuable, is_outstanding, is_ready, is_running, no_bytes, operation_running, with_issued_end, with_started}
pub use Rattle.uring_entry.specs.Setup.{Setup}
pub use Rattle.uring_entry.specs.declared.operation.Op.{Op}
pub use Rattle.uring_crash_machine.proofs.Noted.{first_at, first_many, logs_at, map_alike, map_same, map_twice}
pub use Rattle.uring_crash_machine.specs.Epochs.{file_at, first_files, logs_on}
pub use Rattle.uring_crash_machine.specs.Logs.{Log, begun, begun_of, empty_log, finished, finished_as, finished_of, log_of, log_on, logged}
pub use Rattle.uring_files.specs.Operations.{IsForFiles, result_of}
pub use Rattle.uring_outcomes.specs.Moments.{Moment, after_moves, ended_at_once, issued, moved, started, starting}
pub use Rattle.uring_outcomes.specs.Runs.{MadeAs, StandsAt, called_in, entries_of}
pub use Rattle.uring_outcomes.specs.Walks.{BeginsIn, paths_of}
pub use Rattle.uring_outcomes.specs.declared.move_of_calls.Move.{Move}
pub use Rattle.uring_crash_outcomes.specs.Moves.{CanShow, log_along, log_moved, log_past}
pub use Rattle.uring_crash_outcomes.specs.Shown.{AreLeft, Crash, HasBegun}
pub use Rattle.uring_crash_outcomes.specs.Trials.{AreLeftOf, AreShown, HasMade, HasTried, IsCrowdedBy, IsShownAfter, IsTooMany, IsWalk, Shows, TakesPath, Widens, logs_after, spread_over, with_file}
pub use Rattle.uring_volume.specs.Images.{IsImage, IsIn}
