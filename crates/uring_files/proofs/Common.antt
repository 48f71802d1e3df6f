-- The names that several of these files cite, passed on from one place. Declares nothing.
pub use Rattle.std.proofs.lemmas.Bool.{both_ways, cases_Bool}
pub use Rattle.std.proofs.lemmas.Bool.Decides.{Decides-int_eq, nat_tests}
pub use Rattle.std.proofs.lemmas.List.{length-set, places}
pub use Rattle.std.specs.Option.{option_map, option_map_or}
pub use Rattle.std.specs.Ordering.{int_eq}
pub use Rattle.std.specs.Prelude.{if◌then◌else◌, nat_le, nat_lt, slice_get, slice_set, ◌&&◌, ◌==◌}
pub use Rattle.uring_entry.specs.declared.operation.Op.{Op}
pub use Rattle.uring_entry.specs.declared.operation.Outcome.{Outcome}
pub use Rattle.uring_files.specs.Contents.{FileContents, empty_file, is_past_end, is_too_long, overwritten, read_outcome, with_writes_synced, written}
pub use Rattle.uring_files.specs.Laws.{AgreeAt, ChangesAreAsked, ChangesStay, ChangesTellBytes, EndsStandAlone, FailureChangesNothing, FilesStandAlone, IsWrittenOver, OthersStay, file_changed, is_on}
pub use Rattle.uring_files.specs.Operations.{IsForFiles, IsOutcome, after, bytes_after, change_by, ended_with, file_asked, file_of, is_lengthening, on_file, result_of, with_changed}
pub use Rattle.uring_files.specs.declared.change.Change.TheVariants.{Nothing}
