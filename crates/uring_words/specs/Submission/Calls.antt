-- What the words of the places say: items, call by call, and the close mark after all calls. Our own rule.
use Rattle.std.specs.Prelude.{◌≡◌, ℕ, Bool, true, false, ◌||◌, not, List, [], ◌∷◌, if◌then◌else◌, MatchBool}
use Rattle.uring_ports.specs.declared.item.Item.{Item}
use Rattle.uring_ports.specs.declared.item.Item.TheVariants as item
use Rattle.uring_ports.specs.Messages.{with_first}
use Rattle.uring_ports.specs.Ports.{Put}
use Rattle.uring_words.specs.Submission.Layout.{closes, ends_call, slot_of}
use Rattle.uring_words.specs.declared.submission.view.Position.{Position}

-- the item of these words: an entry, or a word that names no slot if there are no entry words
abbrev pub item_from : ℕ → List ℕ → Item
item_from mark [] = item.Bad (slot_of mark)
item_from mark (w ∷ ws) = item.Entry (w ∷ ws)

abbrev pub item_of : Position → Item
item_of p = item_from p.mark p.entry

-- an item in front of the calls after it: it ends its call, or is the first of the next of them
abbrev pub with_item : Bool → Item → List (List Item) → List (List Item)
with_item true x calls = (x ∷ []) ∷ calls
with_item false x calls = with_first x calls

-- the calls that these positions hold
abbrev pub calls_of : List Position → List (List Item)
calls_of [] = []
calls_of (p ∷ ps) =
    if closes p.mark then [] else with_item (ends_call p.mark) (item_of p) (calls_of ps)

-- whether the close mark is among these positions
abbrev pub has_close_mark : List Position → Bool
has_close_mark [] = false
has_close_mark (p ∷ ps) = closes p.mark || has_close_mark ps

-- all that these positions hold
abbrev pub put_of : List Position → Put
put_of ps = record { calls = calls_of ps; closed = has_close_mark ps }

-- the items that these positions hold
abbrev pub items_of : List Position → List Item
items_of [] = []
items_of (p ∷ ps) = if closes p.mark then items_of ps else item_of p ∷ items_of ps

-- these positions end what goes on, whole calls and nothing after the close mark. inside: whether they begin inside a call
abbrev pub AreWholeFrom : Bool → List Position → Type 0
AreWholeFrom inside [] = inside ≡ false
AreWholeFrom inside (p ∷ ps) =
    MatchBool (closes p.mark) ((inside ≡ false) × (ps ≡ [])) (AreWholeFrom (not (ends_call p.mark)) ps)

-- whole calls, and nothing after the close mark
abbrev pub AreWhole : List Position → Type 0
AreWhole ps = AreWholeFrom false ps

-- items of a call that goes on after them
abbrev pub AllGoOn : List Position → Type 0
AllGoOn [] = Unit {0}
AllGoOn (p ∷ ps) = (closes p.mark ≡ false) × (ends_call p.mark ≡ false) × AllGoOn ps
