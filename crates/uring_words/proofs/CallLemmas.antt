-- What positions more do to the calls that positions hold.
use Rattle.std.proofs.Common.{◌≡◌, ◌↔◌, Bool, true, false, not, List, [], ◌∷◌, ◌++◌, map, length, refl, arith, append-nil, length-append}
use Rattle.std.proofs.lemmas.Bool.{false≢true, cases_Bool}
use Rattle.std.proofs.lemmas.List.{nil_from_length}
use Rattle.uring_ports.specs.declared.item.Item.{Item}
use Rattle.uring_ports.specs.Ports.{Put, items_of_calls, places_of, with_call, with_close, LeavesItems}
use Rattle.uring_words.specs.Submission.Calls.{item_of, with_item, calls_of, has_close_mark, put_of, items_of, AreWholeFrom, AreWhole, AllGoOn}
use Rattle.uring_words.specs.Submission.Layout.{closes, ends_call}
use Rattle.uring_words.specs.declared.submission.view.Position.{Position}

-- one position more that goes on
pub goes_on_snoc : (ps : List Position) (p : Position) → AllGoOn ps → closes p.mark ≡ false
    → ends_call p.mark ≡ false → AllGoOn (ps ++ p ∷ [])
goes_on_snoc [] p all open' on = (open', on, tt)
goes_on_snoc (q ∷ qs) p all open' on = (all.0, all.1, goes_on_snoc qs p all.2 open' on)

first_append : (e : Bool) (x y : Item) (cs ds : List (List Item))
    → with_item false x (with_item e y cs ++ ds) ≡ with_item false x (with_item e y cs) ++ ds
first_append true x y cs ds = refl
first_append false x y [] ds = refl
first_append false x y (c ∷ cs) ds = refl

item_append : (e : Bool) (x : Item) (ps : List Position) (ds : List (List Item))
    → AreWholeFrom (not e) ps → has_close_mark ps ≡ false
    → with_item e x (calls_of ps ++ ds) ≡ with_item e x (calls_of ps) ++ ds
item_append true x ps ds h none = refl
item_append false x [] ds h none = grind (arith, false≢true)
item_append false x (p ∷ ps) ds h none = grind (arith, first_append (ends_call p.mark) x (item_of p) (calls_of ps) ds)

-- the calls of whole positions come before those of the positions after them, whose close mark is that of all, and which are whole exactly if all are
both_calls : (b : Bool) (xs ys : List Position) → AreWholeFrom b xs → has_close_mark xs ≡ false
    → (calls_of (xs ++ ys) ≡ calls_of xs ++ calls_of ys) × (has_close_mark (xs ++ ys) ≡ has_close_mark ys) × (AreWholeFrom b (xs ++ ys) ↔ AreWhole ys)
both_calls b [] ys h none = grind arith
both_calls b (p ∷ ps) ys h none =
    grind (arith, both_calls (not (ends_call p.mark)) ps ys, item_append (ends_call p.mark) (item_of p) ps (calls_of ys))

-- what comes after whole calls is whole
pub whole_rest : (b : Bool) (xs ys : List Position) → AreWholeFrom b xs → has_close_mark xs ≡ false
    → AreWholeFrom b (xs ++ ys) → AreWhole ys
whole_rest b xs ys h none w = (both_calls b xs ys h none).2.0 w

-- the positions of one call are that call, whole and with no close mark
one_call : (b : Bool) (ps : List Position) (p : Position) → AllGoOn ps → closes p.mark ≡ false
    → ends_call p.mark ≡ true
    → (calls_of (ps ++ p ∷ []) ≡ map item_of (ps ++ p ∷ []) ∷ []) × AreWholeFrom b (ps ++ p ∷ []) × (has_close_mark (ps ++ p ∷ []) ≡ false)
one_call b [] p all open' ends = grind arith
one_call b (q ∷ qs) p all open' ends = grind (arith, one_call true qs p)

-- these positions hold this, whole calls
pub record Holding (ps : List Position) (put : Put) : Type 0 where
  pub is : put_of ps ≡ put
  pub whole : AreWhole ps

-- one call after all calls
pub holds_call : (xs ps : List Position) (p : Position) → AreWhole xs → has_close_mark xs ≡ false
    → AllGoOn ps → closes p.mark ≡ false → ends_call p.mark ≡ true
    → Holding (xs ++ (ps ++ p ∷ [])) (with_call (put_of xs) (map item_of (ps ++ p ∷ [])))
holds_call xs ps p whole none all open' ends =
    grind (arith, both_calls false xs (ps ++ p ∷ []) whole none, one_call false ps p all open' ends)

-- the close mark after all calls
pub holds_close : (xs : List Position) (p : Position) → AreWhole xs → has_close_mark xs ≡ false
    → closes p.mark ≡ true → Holding (xs ++ p ∷ []) (with_close (put_of xs))
holds_close xs p whole none closing = grind (arith, both_calls false xs (p ∷ []) whole none, append-nil)

items_with_item : (e : Bool) (x : Item) (calls : List (List Item))
    → items_of_calls (with_item e x calls) ≡ x ∷ items_of_calls calls
items_with_item true x calls = refl
items_with_item false x [] = refl
items_with_item false x (c ∷ cs) = refl

-- the items that positions hold are those of their calls
items_calls_of : (b : Bool) (ps : List Position) → AreWholeFrom b ps
    → items_of ps ≡ items_of_calls (calls_of ps)
items_calls_of b [] h = refl
items_calls_of b (p ∷ ps) h =
    grind (arith, items_calls_of (not (ends_call p.mark)) ps, items_with_item (ends_call p.mark) (item_of p) (calls_of ps))

-- whole calls take as many places as there are of them
pub places : (b : Bool) (ps : List Position) → AreWholeFrom b ps → places_of (put_of ps) ≡ length ps
places b [] h = refl
places b (p ∷ ps) h =
    grind (arith, places (not (ends_call p.mark)) ps, items_with_item (ends_call p.mark) (item_of p) (calls_of ps))

-- nothing is after the close mark
nothing_after : (b : Bool) (xs ys : List Position) → AreWholeFrom b (xs ++ ys)
    → has_close_mark xs ≡ true → ys ≡ []
nothing_after b [] ys h closed = absurd (false≢true closed)
nothing_after b (p ∷ ps) ys h closed = grind (arith, nothing_after (not (ends_call p.mark)) ps ys, nil_from_length, length-append ps ys)

-- positions that go on aren't whole calls
pub not_whole : (ps : List Position) → AllGoOn ps → AreWholeFrom true ps → ⊥
not_whole [] all h = grind (arith, false≢true)
not_whole (p ∷ ps) all h = grind (arith, not_whole ps)

-- inside a call there is no close mark
pub no_mark_inside : (ps : List Position) (p : Position) (rest : List Position) → AllGoOn ps
    → closes p.mark ≡ true → AreWholeFrom true (ps ++ p ∷ rest) → ⊥
no_mark_inside [] p rest all closing h = grind (arith, false≢true)
no_mark_inside (q ∷ qs) p rest all closing h = grind (arith, no_mark_inside qs p rest)

-- what was put and not pulled
pub leaves : (all old new : List Position) → all ≡ old ++ new → AreWhole all → AreWhole old
    → LeavesItems (put_of all) (put_of old) (items_of new)
leaves all old new is whole old_whole =
    grind (arith, cases_Bool (has_close_mark old), nothing_after, append-nil, both_calls false old new old_whole, items_calls_of, false≢true)
