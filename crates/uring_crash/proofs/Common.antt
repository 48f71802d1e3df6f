-- The names that several of these files cite, passed on from one place. Declares nothing.
pub use Rattle.std.proofs.lemmas.Int.{to_z-of_z}
pub use Rattle.std.proofs.lemmas.List.{append-nil, length-map, map-append, take_all, take_more}
pub use Rattle.std.proofs.lemmas.Result.{IfOk-weaker, on_ok_weaker}
pub use Rattle.std.specs.Io.KnownBytes.{Appends, Consumes, IsAtEnd, Keeps}
pub use Rattle.std.specs.List.{list_any}
pub use Rattle.std.specs.Prelude.{IsTrue, codes, slice_index, string_bytes}
pub use Rattle.uring_core.specs.Histories.{History, history_of, world}
pub use Rattle.uring_crash.specs.Crashes.{Leaves, image_text, is_bad}
pub use Rattle.uring_crash.specs.Following.{Followed, Following, Follows, HasFollowed, ReadsLine, TookLines}
pub use Rattle.uring_crash.specs.Keeping.{Holds, IsPlain, is_kept_byte, is_safe_at, is_safe_over, is_safe_to, is_safe_up_to, keeps_byte, lies_over, may_show_other, shows_other, stands_over}
pub use Rattle.uring_crash.specs.Questions.{Asks, Replies, count_text, image_lines, kept_text}
pub use Rattle.uring_crash.specs.Watches.{Watches, Watching}
pub use Rattle.uring_crash.specs.declared.watch.Watch.{Watch}
pub use Rattle.uring_entry.specs.Setup.{Setup}
pub use Rattle.uring_crash_machine.specs.Logs.{Log, finished_as, issued_as, log_of, logged}
pub use Rattle.uring_trace.specs.Exchanges.{Exchange, events_of, lines_of}
pub use Rattle.uring_volume.specs.Choices.{issued}
pub use Rattle.uring_volume.specs.Images.{IsImage, IsIn, IsInOrder, UnitIsLeft, byte_over, end_of, is_on, is_under}
