-- The law `published_is_told`: the items published are those that the events tell, and so is the count of dropped words.
-- The items: from `own_submission`, position by position. The count: what all calls took less the entries among it,
-- which `takes_places` has; kept from the last close on by induction over the history.
use Rattle.std.proofs.Common.{◌≡◌, ℕ, suc, ◌+◌, ◌≤◌, List, [], ◌∷◌, length, map, take, count_by, get_or, Option, Some, None, slice_get, refl, arith}
use Rattle.uring_laws.proofs.Common.{All, All-cons, All-nil, Answer, History, IsItem, IsLawfulApart, OwnSubmission, Place, Setup, Sqe, Step, SubmissionMove, World, closes, dropped_in, entries_taken, enumerate_from, get_or-map, get_or_append_left, get_or_from_slice_get, item_of, length-map, length-take-le, length_push, positions_taken, published_entry, published_items, slice_get_within, sound_of, staged_words, stays, stores, submission_move, sum_by_push, take-append-le, taken, world, common_steps}
use Rattle.uring_laws.specs.Published.{drops_position, positions_dropped, OwnPublished}
use Rattle.uring_laws.proofs.ReadOff.{own_submission}
use Rattle.uring_laws.proofs.TakenPlaces.{takes_places}
use Rattle.uring_rings.proofs.Places.{entries_and_dropped}

-- The items.

-- places whose entries are told by their positions, from n on
items_are : (entry_at : ℕ → Option Sqe) (places : List Place) (n : ℕ)
    → ((k : ℕ) (p : Place) → slice_get places k ≡ Some p → p.entry ≡ entry_at (n + k))
    → map (λ p. item_of p.word p.entry) places
    ≡ map (λ q. item_of q.1 (entry_at q.0)) (enumerate_from n (map (λ p. p.word) places))
items_are entry_at [] n at = refl
items_are entry_at (p ∷ places) n at = grind (arith, (at 0 p refl), (items_are entry_at places (n + 1) (λ k q e. grind (arith, (at (suc k) q e)))))

-- the entry of a place, by its word
all_items : (size : ℕ) (places : List Place)
    → ((k : ℕ) (p : Place) → slice_get places k ≡ Some p → p.entry ≡ None → size ≤ p.word)
    → All (IsItem size) (map (λ p. item_of p.word p.entry) places)
all_items size [] at = All-nil (IsItem size)
all_items size (p ∷ places) at = All-cons (IsItem size) _ _ (grind (arith, (at 0 p refl))) (all_items size places (λ k q e. at (suc k) q e))

word_is : (g : Setup) (h : History) → OwnSubmission g h → (k : ℕ) (p : Place)
    → slice_get (world g h).submission.published k ≡ Some p → get_or (staged_words h) k 0 ≡ p.word
word_is g h own k p at =
    let places : List Place = (world g h).submission.published in
    grind (arith, own.staged, own.published, (get_or_append_left (map (λ q. q.word) places) (world g h).submission.fresh 0 k), (length-map places (λ (q : Place). q.word)), (get_or-map (λ q. q.word) places k p 0), (get_or_from_slice_get places k p p at), (slice_get_within places k p at))

items_sound : (g : Setup) (h : History) → OwnSubmission g h
    → All (IsItem g.sq) (published_items (world g h).submission)
items_sound g h own =
    all_items g.sq (world g h).submission.published
    (λ k p at none. grind (arith, (word_is g h own k p at), (own.entries k p at)))

-- What calls dropped.

-- of the positions taken, those with an entry and those dropped
taken_or_dropped : (h : History)
    → length (entries_taken h) + count_by drops_position h ≡ positions_taken h
taken_or_dropped [] = refl
taken_or_dropped (e ∷ h) = grind (arith, common_steps, length_push, (taken_or_dropped h))

-- as many were dropped before the last close as the positions of closed calls have no entry
abbrev Drops : History → World → Type 0
Drops h w = positions_dropped h ≡ dropped_in (take (taken w.submission) w.submission.published)

drops_kept : (g : Setup) (h : History) (s : Step) (a : Answer) (v : World) → IsLawfulApart g h
    → SubmissionMove g (world g h) s a v → Drops h (world g h) → Drops ((s, a) ∷ h) v
drops_kept g h s a v lawful (stays _ _ r c is_closed off left) i = grind arith
drops_kept g h s a v lawful (stores tail) i = grind (arith, take-append-le, sound_of)
drops_kept g h s a v lawful (closes accepted missed head call opened all counted) i =
    grind (arith, (sound_of g h lawful), sum_by_push, (takes_places g h lawful), (taken_or_dropped h), entries_and_dropped, length-take-le)
drops_kept g h s a v lawful _ i = i

drops_told : (g : Setup) (h : History) → IsLawfulApart g h → Drops h (world g h)
drops_told g [] lawful = refl
drops_told g ((s, a) ∷ before) lawful = drops_kept g before s a _ lawful.1 (submission_move g s a before lawful) (drops_told g before lawful.1)

pub own_published : (g : Setup) (h : History) → IsLawfulApart g h → OwnPublished g h
own_published g h lawful =
    let own = own_submission g h lawful in
    grind (arith, own, (items_are (published_entry g.sq h) (world g h).submission.published 0 (λ k p at. grind (arith, (own.entries k p at)))), (items_sound g h own), (drops_told g h lawful))
