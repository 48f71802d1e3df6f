-- The names that several of these files cite, passed on from one place. Declares nothing.
pub use Rattle.std.proofs.KnownBytes.{Appends-nil, Consumes-kept, Consumes-nil, Consumes-trans}
pub use Rattle.std.proofs.lemmas.Bool.{cases_Bool, cases_lt, eqb-false, eqb-true, ne_eqb, true≢false}
pub use Rattle.std.proofs.lemmas.List.{append-nil, length-take, nil_from_length, places, reverse-append, take-append-drop, take_more}
pub use Rattle.std.proofs.lemmas.List.Splits.{length-slice_split, slice_split-cons_no}
pub use Rattle.std.specs.Prelude.{Err, IfSome, IsSome, MatchOption, Ok, Option, Result, codes, length, ◌<◌, ◌≤◌}
pub use Rattle.uring_entry.specs.Layout.{AreWords, Cqe, Sqe, bytes_of, header, padded}
pub use Rattle.uring_play_text.specs.Calls.{AreCalls, AreItemLines, IsCall, SpellsCalls, blocks_of, is_blank}
pub use Rattle.uring_play_text.specs.Faults.{IsLongFirst, Reaches, last_block, open_block}
pub use Rattle.uring_play_text.specs.Inputs.{HasLines, IsReturned, IsTold, ReadsAll, ReadsCalls, Tells, Told, lists_of}
pub use Rattle.uring_play_text.specs.ItemLines.{IsBadLine, IsItemLine, SpellsItem}
pub use Rattle.uring_play_text.specs.LineReads.{IsBadWord, IsGiven, IsNoBadWord, IsNoItem}
pub use Rattle.uring_play_text.specs.Readings.{Has, Holds, ReadsIn}
pub use Rattle.uring_play_text.specs.Scripts.{Adds, Gathers, Goes, IsAt, IsEarly, Returns, one_call}
pub use Rattle.uring_play_text.specs.declared.play_fault.PlayFault.{PlayFault}
pub use Rattle.uring_ports.specs.declared.item.Item.{Item}
