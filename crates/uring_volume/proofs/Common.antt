-- The names that several of these files cite, passed on from one place. Declares nothing.
pub use Rattle.std.proofs.Math.Nat.{add-mul, div-div-eq-div-mul, div-eq_of_lt-le, div-le_self, div-lt_iff_lt-mul, lt-div-mul-add, mul-div-le, mul-le-mul_left, mul-suc, mul_comm, one-mul, zero-mul}
pub use Rattle.std.proofs.lemmas.Bool.{and_from, and_left, and_parts, and_right, both_ways, cases_Bool, cond-false, cond-true, cond_both, eq-eqb, eqb-false, eqb-true, false_from_ne_true, false≢true, le-leb, lt-ltb, ltb-true, ne_eqb, not-true, not_from_false, not_from_true, or_cases, or_from, or_left, or_parts, or_right}
pub use Rattle.std.proofs.lemmas.List.{append-nil, append_assoc, drop-append-le, drop_all, drop_at, drop_more, ext_get_or, get_or-append_right, get_or-drop, get_or-take, get_or_append_left, get_or_past, length-append, length-drop, length-map, length-replicate, length-take, length-take-le, map-append, reverse-append, take-append-drop, take-append-le, take-map, take_all, take_at, take_more}
pub use Rattle.std.proofs.lemmas.List.Folds.{list_any-append}
pub use Rattle.std.specs.Cmp.Lexicographic.{pointwise, same_text}
pub use Rattle.std.specs.List.{filter, list_any}
pub use Rattle.std.specs.Prelude.{Err, IfOk, Ok, OnOk, Result, nat_eq, slice_index, vec_capacity, vec_len, ◌&&◌}
pub use Rattle.uring_volume.specs.Choices.{AreBelow, IsChosen, IsLawful, IsLeftBy, after, chosen, has_safe, issued, may_come, may_follow, named, part, up_to_safe, waits_for_one}
pub use Rattle.uring_volume.specs.Events.{History, goes_along, has_ended, is_before, is_covered, is_done, is_given_up, is_reached, is_safe, lies_in, meets, writes}
pub use Rattle.uring_volume.specs.Folds.{FoldChangesNone, IsFoldable, IsFoldedFrom, IsOneFolded, IsOver, can_fold, is_in_way, is_of_write, overlap, without_write}
pub use Rattle.uring_volume.specs.Images.{IsImage, IsIn, IsInOrder, MayBeLeft, UnitIsLeft, byte_over, end_of, is_on, is_under, length_over}
pub use Rattle.uring_volume.specs.Laws.{ChangesNone, ChosenIsImage, FailedIsNeverSafe, FailedLiesUnder, ImageIsChosen, IsAtRest, IsKept, IsReadBack, RestHasOneImage, SafeIsReadBack, SmallerUnitsAllowIt, SyncAddsNone, UnendedIsNeverSafe}
pub use Rattle.uring_volume.specs.Listing.{AreTheImages, IsEachOnce, ListsAreAsLong}
pub use Rattle.uring_volume.specs.Volume.{IsHeld, IsShown, IsSound, Volume, but, ended, is_one_of, running_syncs, running_writes, with_event, with_sync, with_write}
pub use Rattle.uring_volume.specs.Ways.{Way, bytes_from, bytes_over, contents_of, fewest, fewest_with, files_of, found_at, found_by, fronts, goes_with, images_of, is_needed, joined, lengths_by, lengths_of, next_ways, put_by, same_way, same_write, stepped, steps_of, unit_contents, units_in, way}
pub use Rattle.uring_volume.specs.Writes.{Write}
pub use Rattle.uring_volume.specs.declared.event.Event.{Event}
pub use Rattle.uring_volume.specs.declared.event.Event.TheVariants.{SyncEnded, SyncFailed, SyncIssued, WriteEnded, WriteFailed, WriteIssued}
