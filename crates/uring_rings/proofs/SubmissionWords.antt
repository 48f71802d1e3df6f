-- The words that were published or staged, by their positions, and the cells that hold them.
use Rattle.std.proofs.Common.{◌≡◌, ◌≢◌, ℕ, ◌+◌, ◌-◌, ◌%◌, ◌^◌, ◌<◌, ◌≤◌, true, false, eqb, List, [], ◌∷◌, ◌++◌, length, drop, map, get_or, Some, None, refl, arith, eq-eqb, ne_eqb}
use Rattle.uring_rings.proofs.Common.{IsSq, Place, Setup, ShowsSubmission, Sq, Sqe, Submission, append-nil, append_assoc, get_or-drop, get_or-map, get_or_append_left, get_or_from_slice_get, is_busy, length-append, length-drop, length-map, map-append, place_of, slice_get, slice_get-get_or, slice_get_within, staged, with_published, with_staged, words}
use Rattle.uring_entry.specs.IndexWords.{word_of}
use Rattle.std.proofs.lemmas.List.Folds.{list_any_at, list_any_none}

-- there are as many words as staged positions
pub length_words : (l : Submission) → length (words l) ≡ staged l
length_words l = simp (length-append, length-map)

-- the word of a published position is its place's
pub word_published : (l : Submission) (k : ℕ) (p : Place) → slice_get l.published k ≡ Some p
    → get_or (words l) k 0 ≡ p.word
word_published l k p found =
    grind (arith, slice_get_within l.published k p found, length-map, get_or_append_left, get_or-map (λ (q : Place). q.word) l.published k p 0, get_or_from_slice_get l.published k p p found)

-- one more word is staged
pub words_indexed : (l : Submission) (word : ℕ) → words (with_staged l word) ≡ words l ++ word ∷ []
words_indexed l word = grind (arith, append_assoc)

-- a place keeps its word
words_of_places : (size : ℕ) (content : ℕ → Sqe) (ws : List ℕ)
    → map (λ (q : Place). q.word) (map (place_of size content) ws) ≡ ws
words_of_places size content [] = refl
words_of_places size content (w ∷ ws) = grind (arith, (words_of_places size content ws))

-- publishing changes no word
pub words_stored : (size : ℕ) (l : Submission) → words (with_published size l) ≡ words l
words_stored size l = simp (append-nil, map-append, words_of_places)

-- What is read k cells on from the word of a count: the word of a published position.
pub record ReadsPlace (g : Setup) (q : Sq) (l : Submission) (count word k : ℕ) : Type 0 where
  pub place : Place
  pub found : slice_get l.published (count + k) ≡ Some place
  pub read : get_or q.array ((word + k) % 2 ^ 32 % q.size) 0 ≡ place.word

pub reads_place : (g : Setup) (q : Sq) (l : Submission) (count word k : ℕ) → ShowsSubmission g q l
    → word ≡ word_of g.start count
    → l.seen_head ≤ count → count + k < length l.published → ReadsPlace g q l count word k
reads_place g q l count word k s is_word seen within =
    let p = get_or l.published (count + k) (record { word = 0; entry = None }) in
    let found = slice_get-get_or l.published (count + k) (record { word = 0; entry = None }) within in
    record { place = p; found = found; read = grind (arith, word_published l (count + k) p found, s.cells (count + k)) }

-- a place above the head last loaded doesn't name a slot that isn't busy
pub not_named : (l : Submission) (slot k : ℕ) (p : Place) → is_busy l slot ≡ false → l.seen_head ≤ k
    → slice_get l.published k ≡ Some p → p.word ≢ slot
not_named l slot k p free from found named =
    grind (arith, slice_get_within l.published k p found, length-drop, get_or-drop, get_or_from_slice_get l.published k p p found, list_any_at (λ (r : Place). eqb r.word slot) (drop l.seen_head l.published) (k - l.seen_head) p, eq-eqb)

-- The loop over the d positions above the head last loaded.
module _ (g : Setup) (q : Sq) (l : Submission) (d k slot : ℕ) (i : IsSq q.size q.table q.array q.call) (s : ShowsSubmission g q l) (small : d < 2 ^ 32) (leads : (q.seen_head + d) % 2 ^ 32 ≡ q.published) where
  above : d ≡ length l.published - l.seen_head
  above = grind arith

  -- it found one that names the slot
  pub loop_finds : k < d → get_or q.array ((q.seen_head + k) % 2 ^ 32 % q.size) 0 ≡ slot → is_busy l slot ≡ true
  loop_finds below named =
      let r = reads_place g q l l.seen_head q.seen_head k s s.seen_head (omega arith) (omega (arith, above)) in
      grind (arith, length-drop, get_or-drop, get_or_from_slice_get l.published (l.seen_head + k) r.place r.place r.found, list_any_at (λ (p : Place). eqb p.word slot) (drop l.seen_head l.published) k r.place, eq-eqb)

  -- it found none
  pub loop_passes : d ≤ k
      → ((j : ℕ) → j < k → get_or q.array ((q.seen_head + j) % 2 ^ 32 % q.size) 0 ≡ slot → ⊥)
      → is_busy l slot ≡ false
  loop_passes all unnamed =
      list_any_none (λ (p : Place). eqb p.word slot) (drop l.seen_head l.published)
      (λ j e short.
      let within : l.seen_head + j < length l.published = let h = simp length-drop at short in omega arith in
      let r = reads_place g q l l.seen_head q.seen_head j s s.seen_head (omega arith) within in
      grind (arith, above, get_or-drop l.seen_head l.published j e, get_or_from_slice_get l.published (l.seen_head + j) r.place e r.found, ne_eqb r.place.word slot, unnamed j))
