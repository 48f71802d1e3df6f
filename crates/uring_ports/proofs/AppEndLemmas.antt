-- What items of a ring are, one by one, and what refuses a call.
-- Stable: other crates may import `item_at`.
use Rattle.std.proofs.Common.{◌≡◌, false, ℕ, ◌<◌, ◌≤◌, List, length, get_or, take, arith}
use Rattle.std.proofs.lemmas.List.{get_or-map, length-map, take_all}
use Rattle.std.proofs.lemmas.List.Elements.{All-get_or}
use Rattle.uring_entry.specs.Submission.{IsItem}
use Rattle.uring_ports.specs.declared.item.Item.{Item}
use Rattle.uring_ports.specs.declared.refusals.SubmitRefusal.{SubmitRefusal}
use Rattle.uring_ports.specs.AppEnd.{AppEnd, IsAmiss, RefusesCall}
use Rattle.uring_ports.specs.Items.{AreItems, published_as, all_published_as}

-- each of them is one
pub item_at : (size : ℕ) (items : List Item) (i : ℕ) (x : Item) → i < length items
    → x ≡ get_or items i x → AreItems size items → IsItem size (published_as x)
item_at size items i x below at are_items =
    grind (arith, All-get_or (IsItem size) (all_published_as items) i (published_as x), length-map, get_or-map published_as items i x (published_as x))

-- all of them, if those up to an index past the last are
pub all_items : (size : ℕ) (items : List Item) (i : ℕ) → length items ≤ i
    → AreItems size (take i items) → AreItems size items
all_items size items i all are_items = grind (arith, take_all)

-- what is wrong with a call by itself refuses it at an open end
pub amiss_refuses : (a : AppEnd) (items : List Item) (refusal : SubmitRefusal)
    → a.submitted.closed ≡ false → IsAmiss a.sizes.sq items refusal → RefusesCall a items refusal
amiss_refuses a items refusal h amiss = grind arith
