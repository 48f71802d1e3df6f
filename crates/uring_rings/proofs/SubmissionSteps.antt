-- What each call of the submission ring leaves shows the lists after its event.
use Rattle.std.proofs.Common.{◌≡◌, ℕ, ◌+◌, ◌%◌, ◌^◌, ◌<◌, false, eqb, List, [], ◌∷◌, length, map, set, cond, Some, suc, arith, eq-eqb, ne_eqb}
use Rattle.uring_rings.proofs.Common.{IsSq, Place, Setup, ShowsSubmission, Sq, Sqe, Submission, cases_eq, drop-append-le, get_or-set_other, get_or_append_left, get_or_from_slice_get, get_or_push, is_busy, length-append, length-drop, length-map, length-set, mod_below, place_of, slice_get, slice_get-get_or, take-append-le, with_filled, with_published, with_staged}
use Rattle.std.proofs.lemmas.Grind.{get_or-set_at}
use Rattle.uring_rings.proofs.Elements.{slice_get_append_left, slice_get_append_right}
use Rattle.uring_rings.proofs.Counts.{same_cell}
use Rattle.uring_rings.proofs.SubmissionWords.{length_words, words_indexed, words_stored, not_named}

-- a word is staged in the next cell
pub index_shows : (g : Setup) (q : Sq) (l : Submission) (d tail cell word : ℕ)
    → IsSq q.size q.table q.array q.call → ShowsSubmission g q l → d < 2 ^ 32
    → (q.seen_head + d) % 2 ^ 32 ≡ q.tail → (d ≡ q.size → ⊥) → tail ≡ (q.tail + 1) % 2 ^ 32
    → cell ≡ q.tail % q.size
    → ShowsSubmission g (record q { tail = tail; array = set q.array cell word }) (with_staged l word)
index_shows g q l d tail cell word i s small leads not_full is_tail is_cell =
    grind (arith, length-append, words_indexed, get_or_push, length_words, get_or_append_left, mod_below, get_or-set_at, same_cell, get_or-set_other)

-- a table's slots after one was written
slot_after_fill : (table : List Sqe) (content : ℕ → Sqe) (slot n : ℕ) (entry : Sqe)
    → slot < length table → slice_get table n ≡ Some (content n) → n < length table
    → slice_get (set table slot entry) n ≡ Some (cond (eqb n slot) entry (content n))
slot_after_fill table content slot n entry within old short =
    grind (arith, cond, length-set, slice_get-get_or (set table slot entry) n [], cases_eq n slot, eq-eqb, ne_eqb, get_or-set_at table slot n entry [], get_or-set_other, get_or_from_slice_get table n (content n) [])

-- a slot that isn't busy is filled
pub fill_shows : (g : Setup) (q : Sq) (l : Submission) (slot : ℕ) (entry : Sqe)
    → IsSq q.size q.table q.array q.call
    → ShowsSubmission g q l → slot < q.size → is_busy l slot ≡ false
    → ShowsSubmission g (record q { table = set q.table slot entry }) (with_filled l slot entry)
fill_shows g q l slot entry i s below free = grind (arith, cond, slot_after_fill, with_filled, ne_eqb, not_named)

-- a place made of a word is the word's
placed_by : (size : ℕ) (content : ℕ → Sqe) (ws : List ℕ) (k : ℕ) (p : Place)
    → slice_get (map (place_of size content) ws) k ≡ Some p → p ≡ place_of size content p.word
placed_by size content (w ∷ ws) (suc k) p found = placed_by size content ws k p found
placed_by size content ws k p found = grind arith

-- everything staged is published
pub store_shows : (g : Setup) (q : Sq) (l : Submission) → ShowsSubmission g q l
    → ShowsSubmission g (record q { published = q.tail }) (with_published g.sq l)
store_shows g q l s =
    grind (arith, length-append, length-map, take-append-le, drop-append-le, length-drop, words_stored, placed_by, slice_get_append_left, slice_get_append_right)
