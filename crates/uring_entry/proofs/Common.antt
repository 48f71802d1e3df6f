-- The names that several of these files cite, passed on from one place. Declares nothing.
pub use Rattle.std.proofs.Math.Bool.{or-false}
pub use Rattle.std.proofs.lemmas.Bool.{and_from, and_left, and_right, both_ways, cases_eq, cases_lt, eq-eqb, eqb-true, or_left, or_right}
pub use Rattle.std.proofs.lemmas.List.{append-nil, get_or_past, take_more_set}
pub use Rattle.std.specs.Int.{IsNextPowerOfTwo, IsPowerOfTwo, from_le_bytes, to_le_bytes, w32, w64}
pub use Rattle.std.specs.List.{list_any}
pub use Rattle.std.specs.Prelude.{if◌then◌else◌, int_le}
pub use Rattle.uring_entry.specs.Below.{all_below, found_or, least_below, some_below}
pub use Rattle.uring_entry.specs.Groups.{IsGroup, earlier_of, first_broken, first_drain, first_fault, is_before}
unfoldable pub use Rattle.uring_entry.specs.Groups.{first_member}
pub use Rattle.uring_entry.specs.Layout.{AreWords, HasWords, Sqe, addr_of, bytes_of, completion_of, len_of, opcode_of, without_flags, zero_entry}
pub use Rattle.uring_entry.specs.Preparation.{is_cancel, is_cancel_all, is_faulty, is_transfer, operation_named, operation_of}
pub use Rattle.uring_entry.specs.Requests.{Requests, entry_of, has_ended, has_failed, holds_back, is_cancelled, is_candidate, is_drain, is_draining, is_in_faulty_group, is_in_group, is_issuable, is_last, is_outstanding, is_running, is_soft, is_target, least_of, with_accepted, with_cut, with_ended, with_started}
unfoldable pub use Rattle.uring_entry.specs.Requests.{is_after_failure, is_doomed, is_joined, is_ready, some_member, target_of, targets_of}
