-- The calls that lines spell. The play language is our own rule.
use Rattle.std.specs.Prelude.{ℕ, ◌≤◌, ◌==◌, Bool, List, [], ◌∷◌, length}
use Rattle.std.specs.List.{slice_split}
use Rattle.uring_ports.specs.declared.item.Item.{Item}
use Rattle.uring_play_text.specs.ItemLines.{IsItemLine}

-- whether a line is empty, and so ends a call
abbrev pub is_blank : List ℕ → Bool
is_blank line = length line == 0

-- lines cut at each empty one: the lines of each call, in order
abbrev pub blocks_of : List (List ℕ) → List (List (List ℕ))
blocks_of lines = slice_split is_blank lines

-- the lines are these items, one each
abbrev pub AreItemLines : ℕ → List (List ℕ) → List Item → Type 0
AreItemLines size [] [] = Unit {0}
AreItemLines size [] (i ∷ items) = ⊥
AreItemLines size (line ∷ lines) [] = ⊥
AreItemLines size (line ∷ lines) (i ∷ items) =
    IsItemLine size line i × AreItemLines size lines items

-- the lines are the items of one call, of which a ring of this size has room for all
pub record IsCall (size : ℕ) (lines : List (List ℕ)) (items : List Item) : Type 0 where
  pub lines_are : AreItemLines size lines items
  pub fits : length items ≤ size

-- the blocks are these calls, one each, and a block of no line is passed over
abbrev pub AreCalls : ℕ → List (List (List ℕ)) → List (List Item) → Type 0
AreCalls size [] [] = Unit {0}
AreCalls size [] (call ∷ calls) = ⊥
AreCalls size ([] ∷ blocks) calls = AreCalls size blocks calls
AreCalls size ((line ∷ lines) ∷ blocks) [] = ⊥
AreCalls size ((line ∷ lines) ∷ blocks) (call ∷ calls) =
    IsCall size (line ∷ lines) call × AreCalls size blocks calls

-- The lines, in order, spell the calls: an empty line ends a call, and so does the end; calls of no item are passed over.
abbrev pub SpellsCalls : ℕ → List (List ℕ) → List (List Item) → Type 0
SpellsCalls size lines calls = AreCalls size (blocks_of lines) calls
