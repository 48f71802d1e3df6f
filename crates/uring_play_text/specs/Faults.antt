-- The first faulty line. The play language is our own rule.
use Rattle.std.specs.Prelude.{◌≡◌, ℕ, ◌+◌, ◌≤◌, List, [], ◌∷◌, ◌++◌, length}
use Rattle.uring_ports.specs.declared.item.Item.{Item}
use Rattle.uring_play_text.specs.ItemLines.{IsItemLine, IsBadLine}
use Rattle.uring_play_text.specs.Calls.{blocks_of, SpellsCalls}

-- the last block
abbrev pub last_block : List (List (List ℕ)) → List (List ℕ)
last_block [] = []
last_block (block ∷ []) = block
last_block (block ∷ next ∷ blocks) = last_block (next ∷ blocks)

-- the lines of the call that the next line would go on
abbrev pub open_block : List (List ℕ) → List (List ℕ)
open_block lines = last_block (blocks_of lines)

-- The k-th line, counted from 1, stands after lines without a fault: they spell calls.
pub record Reaches (size : ℕ) (lines : List (List ℕ)) (k : ℕ) : Type 0 where
  pub before : List (List ℕ)
  pub line : List ℕ
  pub after : List (List ℕ)
  pub calls : List (List Item)
  pub all : lines ≡ before ++ line ∷ after
  pub number : k ≡ length before + 1
  pub faultless : SpellsCalls size before calls

-- The k-th line is the first faulty one, and it is bad.
abbrev pub IsBadFirst : ℕ → List (List ℕ) → ℕ → Type 0
IsBadFirst size lines k = (r : Reaches size lines k) × IsBadLine size r.line

-- The k-th line is the first faulty one: it is an item, and as many as the ring has entries stand before it in its call.
abbrev pub IsLongFirst : ℕ → List (List ℕ) → ℕ → Type 0
IsLongFirst size lines k = (r : Reaches size lines k) × (i : Item) × IsItemLine size r.line i
    × (size ≤ length (open_block r.before))
