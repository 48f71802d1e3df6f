-- The laws of `calls.rt`: a ring that stands between calls refuses nothing that belongs to a whole call.
-- Each from the answer that is called for, with `Stands` for what the definitions test; no history is needed.
-- Stable: other crates may import what is pub.
use Rattle.std.proofs.Common.{◌≡◌, ℕ, ◌+◌, ◌<◌, ◌≤◌, false, List, [], ◌∷◌, ◌++◌, length, map, None, slice_get, refl, sym, ap, arith, append_assoc, append-nil}
use Rattle.uring_laws.proofs.Common.{All, All-head, All-tail, Answer, CallCloses, CallOpens, CalledForApart, FreeSlotIsFilled, IsItem, ItemsArePublished, PositionIsTaken, Published, Setup, Stands, Submission, TailPublishes, WordIsStaged, World, bad_word, happens, in_call, item_of, length-append, length-map, map-append, place_answer, place_of, slice_get-get_or, sum_by_push, taken, with_entry, with_item, with_items}
use Rattle.std.proofs.Math.ListN.{drop_of_length-le}
use Rattle.uring_core.specs.declared.step.Step.TheVariants as step

-- Filling and staging.

pub slot_filled : (g : Setup) → FreeSlotIsFilled g
slot_filled g w words slot entry a s low called = grind (arith, drop_of_length-le)

pub word_staged : (g : Setup) → WordIsStaged g
word_staged g w words word a s few called = grind (arith, (ap length s.fresh))

pub tail_publishes : (g : Setup) → TailPublishes g
tail_publishes g l words s = grind (arith, length-append, length-map)

-- The items, once they are published.

-- the words that are staged for items
abbrev pub words_of : ℕ → List Published → List ℕ
words_of slot [] = []
words_of slot (with_entry entry ∷ later) = slot ∷ words_of (slot + 1) later
words_of slot (bad_word word ∷ later) = word ∷ words_of (slot + 1) later

pub items_fresh : (l : Submission) (slot : ℕ) (items : List Published)
    → (with_items l slot items).fresh ≡ l.fresh ++ words_of slot items
items_fresh l slot [] = sym (append-nil l.fresh)
items_fresh l slot (item ∷ later) = grind (arith, (items_fresh (with_item l slot item) (slot + 1) later), append_assoc)

pub items_keep : (l : Submission) (slot : ℕ) (items : List Published)
    → (with_items l slot items).published ≡ l.published
items_keep l slot [] = refl
items_keep l slot (item ∷ later) = grind (arith, (items_keep (with_item l slot item) (slot + 1) later))

-- the slots before the first are as they were
slots_below : (l : Submission) (slot : ℕ) (items : List Published) (s : ℕ) → s < slot
    → (with_items l slot items).content s ≡ l.content s
slots_below l slot [] s low = refl
slots_below l slot (item ∷ later) s low = grind (arith, (slots_below (with_item l slot item) (slot + 1) later s))

-- each item is read back from its slot
read_back : (size : ℕ) (l : Submission) (slot : ℕ) (items : List Published)
    → slot + length items ≤ size → All (IsItem size) items
    → map (λ p. item_of p.word p.entry) (map (place_of size (with_items l slot items).content) (words_of slot items))
    ≡ items
read_back size l slot [] few good = refl
read_back size l slot (item ∷ later) few good =
    let l' : Submission = with_item l slot item in
    grind (arith, (slots_below l' (slot + 1) later slot), (read_back size l' (slot + 1) later), (All-tail (IsItem size) item later good), (All-head (IsItem size) item later good))

pub items_published : ItemsArePublished
items_published l size items none few good = grind (arith, map-append, items_keep, items_fresh, read_back)

-- Taking.

pub call_opens : (g : Setup) → CallOpens g
call_opens g w count asked a s is_open few called = grind arith

pub position_taken : (g : Setup) → PositionIsTaken g
position_taken g goes w count asked done a s few low called =
    let is = slice_get-get_or w.submission.published (taken w.submission + done) (record { word = 0; entry = None }) in
    grind (arith, is)

-- by the manual pages' rules none ends the call, so each is one of as many as before
pub next_taken : (g : Setup) → g.stops ≡ false → g.linux ≡ false → (w : World) (count asked done : ℕ) (a : Answer)
    → Stands w.submission [] count → asked ≤ count → done < asked
    → CalledForApart g (in_call w asked done) step.Take a
    → (a ≡ place_answer (slice_get w.submission.published (taken w.submission + done)))
    × (happens g (in_call w asked done) step.Take a ≡ in_call w asked (done + 1))
next_taken g goes manual w count asked done a s few low called = grind (arith, (position_taken g goes w count asked done a s few low called))

pub call_closes : (g : Setup) → CallCloses g
call_closes g w count asked left ended loads s all called = grind (arith, sum_by_push)
