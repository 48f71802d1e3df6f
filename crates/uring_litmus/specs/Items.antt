-- What the calls of a play accept.
use Rattle.std.specs.Prelude.{◌≡◌, ◌≤◌, ◌^◌, ℕ, List, map, Option, Some, None, Ok}
use Rattle.std.specs.List.{filter_map}
use Rattle.std.specs.Io.KnownBytes.{Consumes, IsAtEnd}
use Rattle.uring_entry.specs.Setup.{Setup}
use Rattle.uring_entry.specs.Layout.{Sqe}
use Rattle.uring_ports.specs.declared.item.Item.{Item}
use Rattle.uring_ports.specs.declared.item.Item.TheVariants as item
use Rattle.uring_play_text.specs.Inputs.{IsTold}
use Rattle.uring_outcomes.specs.Faults.{entry_count}

-- the entry of an item: a word that names no slot has none
abbrev pub entry_of : Item → Option Sqe
entry_of (item.Entry entry) = Some entry
entry_of (item.Bad word) = None

-- the entries that a call of these items accepts
abbrev pub accepted_of : List Item → List Sqe
accepted_of items = filter_map entry_of items

-- Calls were read to the end of the input, and these are the entries that they accept.
pub record ReadsEntries (g : Setup) (calls : List (List Sqe)) (left_before left_after : Option (List ℕ)) : Type 0 where
  pub bytes : List ℕ
  pub consumed : Consumes left_before left_after bytes
  pub at_end : IsAtEnd left_after
  pub items : List (List Item)
  pub told : IsTold g.sq bytes (Ok items)
  pub are : calls ≡ map accepted_of items

-- Calls were read to the end of the input, and they accept more entries than requests have numbers, 2^63 - 1.
pub record ReadsTooMany (g : Setup) (left_before left_after : Option (List ℕ)) : Type 0 where
  pub calls : List (List Sqe)
  pub reads : ReadsEntries g calls left_before left_after
  pub many : 2 ^ 63 ≤ entry_count calls
