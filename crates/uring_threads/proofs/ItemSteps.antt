-- What a list of items makes of a ring that stands between calls: it stands after each of them, and after they are published.
use Rattle.std.proofs.Common.{◌≡◌, ℕ, ◌+◌, ◌<◌, ◌≤◌, List, [], ◌∷◌, ◌++◌, length, take, get_or, refl, ap, ◌∙◌, arith, zero-add}
use Rattle.uring_threads.proofs.Common.{Answer, Grows, Item, Kept, Published, Stands, Submission, World, all_published_as, length-map, length-take-le, length_push, map-append, now, published_as, tail_publishes, take_more, with_item, with_item_put, with_items, with_items_published, with_items_put}
use Rattle.uring_core.specs.declared.step.Step.TheVariants as step
use Rattle.uring_threads.proofs.TraceSteps.{grown}

-- the ring stands after items are put, with a word staged for each, and has the same calls
pub items_stand : (l : Submission) (words : List ℕ) (slot : ℕ) (items : List Item) → Stands l words 0
    → Stands (with_items l slot (all_published_as items)) (with_items l slot (all_published_as items)).fresh 0
    × (length (with_items l slot (all_published_as items)).fresh ≡ length words + length items)
    × ((with_items l slot (all_published_as items)).calls ≡ l.calls)
items_stand l words slot [] s = (record { fresh = refl; call = s.call; head = s.head; waiting = s.waiting }, omega (arith, ap length s.fresh), refl)
items_stand l words slot (first ∷ later) s =
    let put : Submission = with_item l slot (published_as first) in
    let next = items_stand put put.fresh (slot + 1) later (grind arith) in
    (next.0, grind (arith, next.1, length_push), grind (arith, next.2))

-- the last item is put last
with_items_snoc : (l : Submission) (slot : ℕ) (items : List Published) (item : Published)
    → with_items l slot (items ++ item ∷ [])
    ≡ with_item (with_items l slot items) (slot + length items) item
with_items_snoc l slot [] item = ap (λ s. with_item l s item) (omega arith)
with_items_snoc l slot (first ∷ later) item = with_items_snoc (with_item l slot first) (slot + 1) later item ∙ ap (λ s. with_item (with_items (with_item l slot first) (slot + 1) later) s item) (omega arith)

-- so many items are put, and the ring stands
pub put_stands : (w : World) (items : List Item) (i : ℕ) → Stands w.submission [] 0
    → i ≤ length items
    → Stands (with_items_put w (all_published_as (take i items))).submission (with_items_put w (all_published_as (take i items))).submission.fresh 0
    × (length (with_items_put w (all_published_as (take i items))).submission.fresh ≡ i)
put_stands w items i s within =
    let put = items_stand w.submission [] 0 (take i items) s in
    (put.0, omega (arith, put.1, length-take-le i items within))

-- the next one is put
pub items_more : (w : World) (items : List Item) (i slot : ℕ) (item : Item) → slot ≡ i
    → i < length items → item ≡ get_or items i item
    → with_item_put (with_items_put w (all_published_as (take i items))) slot (published_as item)
    ≡ with_items_put w (all_published_as (take (i + 1) items))
items_more w items i slot item at within is =
    let before : List Published = all_published_as (take i items) in
    let many : slot ≡ 0 + length before = omega (arith, at, length-map (take i items) published_as, length-take-le i items (omega arith)) in
    rw (take_more items i item within, ← is, map-append, with_items_snoc, ← many)

-- a store of the tail published them, and so many positions wait
pub published_now : (a b : Kept) (w : World) (items : List Item) (x : Answer)
    → Stands w.submission [] 0 → now a ≡ with_items_put w (all_published_as items)
    → Grows a b (step.StoreTail, x)
    → (now b ≡ with_items_published a.setup.sq w (all_published_as items))
    × Stands (now b).submission [] (length items)
published_now a b w items x s at g =
    let put = items_stand w.submission [] 0 items s in
    let made : now b ≡ with_items_published a.setup.sq w (all_published_as items) = rw (grown a b step.StoreTail x g, at) refl in
    (made, rw (made, ← (zero-add (length items)), ← put.1) (tail_publishes a.setup _ _ put.0))
