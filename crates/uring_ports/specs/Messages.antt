-- Glue. The messages that calls and the close mark are sent as, and what messages were sent for.
use Rattle.std.specs.Prelude.{◌≡◌, ℕ, zero, suc, ◌+◌, Bool, true, false, ◌||◌, nat_lt, if◌then◌else◌, List, [], ◌∷◌, ◌++◌, length}
use Rattle.std.specs.List.{flat_map}
use Rattle.uring_ports.specs.declared.item.Item.{Item}
use Rattle.uring_ports.specs.declared.item.Item.TheVariants as item
use Rattle.uring_ports.specs.declared.message.Message.{Message}
use Rattle.uring_ports.specs.Ports.{Put}

abbrev pub close_mark : Message
close_mark = record { item = item.Bad 0; left = 0; closes = true }

-- the item of a call that so many more items follow
abbrev pub item_before : ℕ → Item → Message
item_before left x = record { item = x; left = left; closes = false }

-- these items of a call, that so many more items follow
abbrev pub items_before : ℕ → List Item → List Message
items_before left [] = []
items_before left (x ∷ xs) = item_before (length xs + left) x ∷ items_before left xs

-- the messages of these calls
abbrev pub messages_of_calls : List (List Item) → List Message
messages_of_calls calls = flat_map (items_before 0) calls

-- the messages of all that was put
abbrev pub messages_of : Put → List Message
messages_of put = messages_of_calls put.calls ++ (if put.closed then close_mark ∷ [] else [])

-- an item at the head of the call that goes on
abbrev pub with_first : Item → List (List Item) → List (List Item)
with_first x [] = (x ∷ []) ∷ []
with_first x (call ∷ calls) = (x ∷ call) ∷ calls

-- an item that so many more of its call follow, in front of the calls after it
abbrev pub with_item : ℕ → Item → List (List Item) → List (List Item)
with_item zero x calls = (x ∷ []) ∷ calls
with_item (suc left) x calls = with_first x calls

-- the calls that these messages were sent for
abbrev pub calls_of : List Message → List (List Item)
calls_of [] = []
calls_of (m ∷ ms) = if m.closes then [] else with_item m.left m.item (calls_of ms)

-- the items that these messages were sent for
abbrev pub items_of : List Message → List Item
items_of [] = []
items_of (m ∷ ms) = if m.closes then [] else m.item ∷ items_of ms

-- whether the close mark is one of these messages
abbrev pub has_close_mark : List Message → Bool
has_close_mark [] = false
has_close_mark (m ∷ ms) = m.closes || has_close_mark ms

-- what these messages were sent for
abbrev pub put_of : List Message → Put
put_of ms = record { calls = calls_of ms; closed = has_close_mark ms }

-- whole calls, and nothing after the close mark
abbrev pub AreWhole : List Message → Type 0
AreWhole ms = messages_of (put_of ms) ≡ ms

-- how many items of the last call are still to come, if so many are still to come before these messages
abbrev pub owed_from : ℕ → List Message → ℕ
owed_from owed [] = owed
owed_from owed (m ∷ ms) = owed_from m.left ms

-- how many items of the last call are still to come
abbrev pub owed : List Message → ℕ
owed ms = owed_from 0 ms

-- the next item of a call of which so many items are still to come; or of a new call, or the close mark
abbrev pub Continues : ℕ → Message → Type 0
Continues zero m = m.closes ≡ true → m ≡ close_mark
Continues (suc left) m = m ≡ item_before left m.item

-- this message may be sent after these
abbrev pub MayFollow : List Message → Message → Type 0
MayFollow before m = (has_close_mark before ≡ false) × Continues (owed before) m

-- whether messages that go on from whole calls begin with a whole call, or are the close mark
abbrev pub begins_whole : List Message → Bool
begins_whole [] = false
begins_whole (m ∷ ms) = m.closes || nat_lt m.left (length (m ∷ ms))
