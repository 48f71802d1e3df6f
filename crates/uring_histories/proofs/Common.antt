-- The names that several of these files cite, passed on from one place. Declares nothing.
pub use Rattle.std.proofs.lemmas.List.{length-map, length-replicate, length-take-le, length_push, map-append, take_all, take_more}
pub use Rattle.std.proofs.lemmas.Result.{on_ok_weaker}
pub use Rattle.std.specs.Prelude.{neg_ℤ, slice_get, string_bytes}
pub use Rattle.uring_core.specs.CalledFor.{CalledFor, EndsOn, IsLawful, files_after, files_of}
pub use Rattle.uring_core.specs.Histories.{History, world}
pub use Rattle.uring_core.specs.World.{World, beginning, filling, happens, staging, taking}
pub use Rattle.uring_core.specs.declared.step.Step.{Step}
pub use Rattle.uring_entry.specs.Layout.{Cqe}
pub use Rattle.uring_entry.specs.Requests.{Ending, Requests, entry_of, is_running, outstanding_in}
pub use Rattle.uring_entry.specs.Setup.{Setup}
pub use Rattle.uring_entry.specs.Submission.{Published, Submission, bad_word, dropped, published_items, with_entry, with_filled, with_published, with_staged}
pub use Rattle.uring_files.specs.Operations.{after, byte_of, file_of, result_of, state_of}
pub use Rattle.uring_histories.specs.Recordings.{Between, HasMade, IsAmid, IsEnded, IsPlain, IsRecorded, MadeAfter, Over, ShowsOnly, call_steps, published_in, steps_of_item, take_steps}
pub use Rattle.uring_histories.specs.Shown.{IsAccepted, IsHistoryOf, WritesHistory, remark_text, whole}
pub use Rattle.uring_laws.specs.Standing.{Stands, after_call, in_call, item_steps, with_item, with_items}
pub use Rattle.uring_machine.specs.Machine.{Fits, IsUnrefused}
pub use Rattle.uring_outcomes.proofs.SameEndings.{same_by_descriptors, same_by_places, same_of_states}
pub use Rattle.uring_outcomes.specs.MoveLaws.{GoesThrough}
pub use Rattle.uring_ports.specs.Items.{all_published_as, published_as}
pub use Rattle.uring_ports.specs.declared.item.Item.{Item}
