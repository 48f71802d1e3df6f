-- What each call of the completion ring leaves shows the lists after its event.
use Rattle.std.proofs.Common.{◌≡◌, ℕ, ◌+◌, ◌-◌, ◌%◌, ◌^◌, ◌<◌, true, false, ltb, List, [], ◌∷◌, ◌++◌, length, set, get_or, min, Some, ap, ◌∙◌, arith, ne_eqb, le-ltb}
use Rattle.uring_rings.proofs.Common.{Completions, Cq, Cqe, IsCq, Setup, ShowsCompletions, drop-append-le, drop_more, get_or-set_other, get_or_append_left, get_or_default, has_room, length-drop, length_push, mod_below, next_to_reap, nil_from_length, put_by_flush, slice_get-get_or, take-append-le, take_more, with_posted, with_reaped}
use Rattle.std.proofs.lemmas.Grind.{get_or-set_at}
use Rattle.uring_rings.proofs.Counts.{same_cell}

-- How many completions were put above the head last loaded.
pub put_above : (g : Setup) (q : Cq) (l : Completions) (d : ℕ) → IsCq q.size q.cells
    → ShowsCompletions g q l → d < 2 ^ 32
    → (q.seen_head + d) % 2 ^ 32 ≡ q.tail → d ≡ l.put - l.seen_head
put_above g q l d i s small leads = grind arith

-- how many wait
all_put : (g : Setup) (q : Cq) (l : Completions) → ShowsCompletions g q l
    → length q.overflow ≡ length l.posted - l.put
all_put g q l s = ap length s.waiting ∙ length-drop l.put l.posted

-- Nothing is moved of an empty overflow list.
pub stays : (g : Setup) (q : Cq) (l : Completions) → ShowsCompletions g q l → q.overflow ≡ []
    → false ≡ ltb l.put (min (length l.posted) (l.seen_head + g.cq))
stays g q l s empty = grind (arith, le-ltb, all_put g q l s)

-- The oldest of the overflow list is put into the next cell.
pub put_shows : (g : Setup) (q : Cq) (l : Completions) (x : Cqe) (rest : List Cqe) (spare : ℕ)
    → IsCq q.size q.cells
    → ShowsCompletions g q l → l.put < l.seen_head + g.cq → q.overflow ≡ x ∷ rest
    → ShowsCompletions g (record q { tail = (q.tail + 1) % 2 ^ 32; spare = spare; cells = set q.cells (q.tail % q.size) x; overflow = rest }) (record l { put = l.put + 1 })
put_shows g q l x rest spare i s room oldest =
    grind (arith, all_put g q l s, drop_more l.posted l.put x, get_or_default, mod_below, get_or-set_at, same_cell, get_or-set_other)

-- A completion is posted, and waits after the others.
pub wait_shows : (g : Setup) (q : Cq) (l : Completions) (x : Cqe) (room spare : ℕ)
    → ShowsCompletions g q l
    → ShowsCompletions g (record q { room = room; spare = spare; posted = (q.posted + 1) % 2 ^ 64; overflow = q.overflow ++ x ∷ [] }) (record l { posted = l.posted ++ x ∷ [] })
wait_shows g q l x room spare s = grind (arith, length_push, take-append-le, drop-append-le, get_or_append_left)

-- A post puts the completion into the ring, where none waits and a cell is free.
pub post_puts : (g : Setup) (q : Cq) (l : Completions) (x : Cqe) (room : ℕ) → IsCq q.size q.cells
    → ShowsCompletions g q l → has_room g.cq l ≡ true
    → ShowsCompletions g (record q { room = room; posted = (q.posted + 1) % 2 ^ 64; tail = (q.tail + 1) % 2 ^ 32; cells = set q.cells (q.tail % q.size) x }) (with_posted g.cq l x)
post_puts g q l x room i s open_ring =
    let none : q.overflow ≡ [] = grind (arith, all_put g q l s, nil_from_length q.overflow) in
    let shown = put_shows g (record q { room = room; posted = (q.posted + 1) % 2 ^ 64; overflow = q.overflow ++ x ∷ [] }) (record l { posted = l.posted ++ x ∷ [] }) x [] q.spare i (wait_shows g q l x room q.spare s) (grind arith) (ap (λ xs. xs ++ x ∷ []) none) in
    grind arith

-- A post that finds the ring full, or others waiting, leaves the completion after them.
pub post_waits : (g : Setup) (q : Cq) (l : Completions) (x : Cqe) (room spare : ℕ)
    → ShowsCompletions g q l → has_room g.cq l ≡ false
    → ShowsCompletions g (record q { room = room; spare = spare; posted = (q.posted + 1) % 2 ^ 64; overflow = q.overflow ++ x ∷ [] }) (with_posted g.cq l x)
post_waits g q l x room spare s full = grind (arith, (wait_shows g q l x room spare s))

-- what is read from the next cell is the next of the posted
pub reaps : (g : Setup) (q : Cq) (l : Completions) (cell : ℕ) (x : Cqe) → IsCq q.size q.cells
    → ShowsCompletions g q l → (q.next ≡ q.seen_tail → ⊥) → cell ≡ q.next % q.size
    → x ≡ get_or q.cells cell x → get_or l.posted (length l.reaped) x ≡ x
reaps g q l cell x i s apart is_cell read = grind arith

-- a reap answers the next of the posted
pub reap_answers : (g : Setup) (q : Cq) (l : Completions) (x : Cqe) → IsCq q.size q.cells
    → ShowsCompletions g q l
    → (q.next ≡ q.seen_tail → ⊥) → get_or l.posted (length l.reaped) x ≡ x → Some x ≡ next_to_reap l
reap_answers g q l x i s apart next = grind (arith, ne_eqb, slice_get-get_or)

-- and the ring shows it as reaped
pub reap_shows : (g : Setup) (q : Cq) (l : Completions) (x : Cqe) (next : ℕ) → IsCq q.size q.cells
    → ShowsCompletions g q l → (q.next ≡ q.seen_tail → ⊥) → get_or l.posted (length l.reaped) x ≡ x
    → next ≡ (q.next + 1) % 2 ^ 32
    → ShowsCompletions g (record q { next = next; reaped = (q.reaped + 1) % 2 ^ 64 }) (with_reaped l x)
reap_shows g q l x next i s apart is is_next = grind (arith, length_push, take_more, get_or)

-- the dispatcher loads the head
pub load_shows : (g : Setup) (q : Cq) (l : Completions) → ShowsCompletions g q l
    → ShowsCompletions g (record q { seen_head = q.head }) (record l { seen_head = l.head })
load_shows g q l s = grind arith

-- where no more can be moved, as many are put as a flush puts
pub all_moved : (g : Setup) (q : Cq) (l : Completions) (moved : ℕ)
    → ShowsCompletions g q (record l { seen_head = l.head; put = l.put + moved })
    → false ≡ ltb (l.put + moved) (min (length l.posted) (l.head + g.cq))
    → l.put + moved ≡ put_by_flush g.cq l
all_moved g q l moved s through = grind arith
