-- The names that several of these files cite, passed on from one place. Declares nothing.
pub use Rattle.std.proofs.Math.ListN.{get_or-eq_default, set}
pub use Rattle.std.proofs.lemmas.Bool.{and_from, and_parts, both_ways, cases_Bool, cond-false, cond-true, eq-eqb, eqb-true, false_from_ne_true, false≢true, or_left, or_right}
pub use Rattle.std.proofs.lemmas.List.{append-nil, get_or-append_right, get_or-map, get_or_append_left, length-map, reverse-append, with_items_is}
pub use Rattle.std.specs.Prelude.{IfOk, OnOk, negsuc, pos, replicate, slice_get, vec_len, ℤ}
pub use Rattle.uring_core.specs.CalledFor.{CalledFor, EndsOn, IsLawful, files_after, files_of}
pub use Rattle.uring_core.specs.Core.{FitsApart, IsFinished, IsNoFinish, elements_for}
pub use Rattle.uring_core.specs.Histories.{History, IsLawfulApart, world}
pub use Rattle.uring_core.specs.World.{World, requests_of}
pub use Rattle.uring_core.specs.declared.answer.Answer.{Answer}
pub use Rattle.uring_core.specs.declared.step.Step.{Step}
pub use Rattle.uring_entry.specs.Preparation.{operation_of}
pub use Rattle.uring_entry.specs.Requests.{Requests, entry_of, has_ended, has_started, is_running, no_request, operation_running, with_call, with_ended, with_started}
pub use Rattle.uring_entry.specs.Setup.{Setup}
pub use Rattle.uring_entry.specs.declared.operation.Op.{Op}
pub use Rattle.uring_crash_machine.specs.Epochs.{AreImages, AreLeft, CalledForFrom, CrashMachine, Epoch, FitsRun, IsImageBy, IsLawfulFrom, IsLeftAt, IsRun, IsShort, begun_on, file_at, files_from, first_files, logs_of, logs_on, volume_of, with_step}
pub use Rattle.uring_crash_machine.specs.Logs.{Log, begun_of, change_begun, change_ended, finished, finished_as, finished_of, issued_as, log_from, log_of, log_on, logged, number_of, shown_length, sync_with, write_ended}
pub use Rattle.uring_files.specs.Contents.{FileContents, empty_file, empty_files, file_of_bytes, max_len, overwritten}
pub use Rattle.uring_files.specs.Laws.{WritesOver, file_changed, is_on}
pub use Rattle.uring_files.specs.Operations.{IsOutcome, after, bytes_after, change_by, file_asked, file_of, result_of}
pub use Rattle.uring_files.specs.declared.change.Change.{Change}
pub use Rattle.uring_volume.specs.Choices.{IsLeftBy, issued, named}
pub use Rattle.uring_volume.specs.Images.{IsImage, IsIn, byte_over, end_of, is_under, length_over}
pub use Rattle.uring_volume.specs.Volume.{IsShown, Volume, but, ended, is_one_of, running_syncs, running_writes, with_event, with_sync, with_write}
pub use Rattle.uring_volume.specs.Writes.{Write}
pub use Rattle.uring_volume.specs.declared.event.Event.TheVariants.{SyncEnded, SyncFailed, WriteEnded}
