-- The lines of a play that are items. The play language is our own rule.
use Rattle.std.specs.Prelude.{◌≡◌, ◌≢◌, ℕ, ◌≤◌, ◌^◌, List, [], ◌∷◌, length, codes}
use Rattle.uring_text.specs.Tokens.{tokens_of}
use Rattle.uring_text.specs.Spelling.{SpellsNumber}
use Rattle.uring_text.specs.Forms.{SpellsEntry}
use Rattle.uring_ports.specs.declared.item.Item.{Item}
use Rattle.uring_ports.specs.declared.item.Item.TheVariants as item

-- The tokens spell the item, for a submission ring of this size: an entry as after `fill SLOT` in a trace, or `bad` and a word that isn't below the size.
abbrev pub SpellsItem : ℕ → List (List ℕ) → Item → Type 0
SpellsItem size tokens (item.Entry entry) = SpellsEntry tokens entry
SpellsItem size tokens (item.Bad word) = (token : List ℕ) × (tokens ≡ codes "bad" ∷ token ∷ [])
    × SpellsNumber (2 ^ 32) token word × (size ≤ word)

-- the line is the item: it has at most 300 bytes, and its tokens spell the item
pub record IsItemLine (size : ℕ) (line : List ℕ) (i : Item) : Type 0 where
  pub short : length line ≤ 300
  pub spells : SpellsItem size (tokens_of line) i

-- the line is bad: it isn't empty, and is no item
pub record IsBadLine (size : ℕ) (line : List ℕ) : Type 0 where
  pub some : line ≢ []
  pub none : (i : Item) → IsItemLine size line i → ⊥
