-- Items as they are submitted, and as positions of the ring hold them.
use Rattle.std.specs.Prelude.{ℕ, List, map, All}
use Rattle.uring_entry.specs.Submission.{Published, with_entry, bad_word, IsItem}
use Rattle.uring_ports.specs.declared.item.Item.{Item}
use Rattle.uring_ports.specs.declared.item.Item.TheVariants as item

-- what a position holds that this item was submitted for
abbrev pub published_as : Item → Published
published_as (item.Entry entry) = with_entry entry
published_as (item.Bad word) = bad_word word

-- what the positions hold that these items were submitted for
abbrev pub all_published_as : List Item → List Published
all_published_as items = map published_as items

-- items of a ring of this size: a bad word isn't below the size. Our own rule
abbrev pub AreItems : ℕ → List Item → Type 0
AreItems size items = All (IsItem size) (all_published_as items)
