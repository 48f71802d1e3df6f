-- The names that several of these files cite, passed on from one place. Declares nothing.
pub use Rattle.std.proofs.lemmas.Bool.{cases_eq, cases_lt}
pub use Rattle.std.proofs.lemmas.List.{append-nil, append_assoc, drop-append-le, drop_more, get_or-drop, get_or-map, get_or-set_other, get_or_append_left, get_or_default, get_or_push, get_or_read, length-append, length-drop, length-map, length-set, length-take-le, length_push, map-append, nil_from_length, take-append-le, take_more}
pub use Rattle.std.proofs.lemmas.Nat.{and_mask, mod_below, pow_below}
pub use Rattle.std.proofs.lemmas.Option.{get_or_from_slice_get, slice_get-get_or, slice_get_within}
pub use Rattle.std.specs.List.{slice_get}
pub use Rattle.uring_entry.specs.Completions.{Completions, has_room, next_to_reap, put_by_flush, with_posted, with_reaped}
pub use Rattle.uring_entry.specs.Layout.{Cqe, Sqe}
pub use Rattle.uring_entry.specs.Setup.{Setup}
pub use Rattle.uring_entry.specs.Submission.{Call, Place, Submission, dropped, dropped_in, entries_of, is_busy, pending, place_of, places_from, staged, taken, with_closed, with_filled, with_published, with_staged}
pub use Rattle.uring_rings.specs.Cq.{Cq, IsCq, ShowsCompletions}
pub use Rattle.uring_rings.specs.Sq.{IsSq, ShowsSubmission, Sq, progress, words}
