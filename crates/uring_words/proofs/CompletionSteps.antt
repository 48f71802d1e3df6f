-- The steps of the completion ring's table keep the agreement.
use Rattle.std.proofs.Common.{◌≡◌, ◌≢◌, ℕ, ◌+◌, ◌^◌, ◌<◌, ◌≤◌, Bool, List, [], ◌∷◌, ◌++◌, length, get_or, set, if◌then◌else◌, refl, sym, ◌∙◌, ap, arith, append_assoc, append-nil, length-append, length-set, get_or-set_other, get_or-set_same}
use Rattle.std.proofs.Math.Seq.{get_or-append_seam}
use Rattle.uring_entry.specs.IndexWords.{word_of}
use Rattle.uring_ports.specs.Dropped.{WereHad}
use Rattle.uring_words.specs.Completion.Layout.{cell_index, tail_index, head_index, dropped_index, IsCell, StandsAt}
use Rattle.uring_words.specs.Completion.Ends.{copied_one}
use Rattle.uring_words.specs.Completion.Rule.{last_of, begun, Agree}
use Rattle.uring_words.specs.Completion.Steps.{word_stored, tail_stored, dropped_stored, head_loaded, tail_loaded, loaded_of, word_loaded, head_stored, dropped_loaded}
use Rattle.uring_words.specs.Places.{place_of}
use Rattle.uring_words.specs.declared.completion.view.AppSide.{AppSide}
use Rattle.uring_words.specs.declared.completion.view.KernelSide.{KernelSide}
use Rattle.uring_words.proofs.Standing.{some_size, place_below, apart, one_more}

-- a store elsewhere leaves a cell as it was
stands_elsewhere : (words : List ℕ) (cell i w : ℕ) (c : List ℕ)
    → ((k : ℕ) → k < 10 → cell_index cell k ≢ i) → StandsAt words cell c
    → StandsAt (set words i w) cell c
stands_elsewhere words cell i w c other s k below =
    get_or-set_other words i (cell_index cell k) w 0 (other k below) ∙ s k below

-- a store of the tail, the head or the dropped word leaves the words of the cells as they were
others_stand : (words : List ℕ) (a : AppSide) (d : KernelSide) (i w : ℕ) → Agree words a d
    → tail_index d.size ≤ i
    → ((k : ℕ) (e : List ℕ) → a.got ≤ k → k < length d.put → StandsAt (set words i w) (place_of d.start d.size k) (get_or d.put k e))
    × ((k : ℕ) → k < length d.cell → get_or (set words i w) (cell_index (place_of d.start d.size (length d.put)) k) 0 ≡ get_or d.cell k 0)
others_stand words a d i w h after =
    let some : 0 < d.size = some_size d.size h.sized.power in
    let few = h.few in
    let next : place_of d.start d.size (length d.put) < d.size = place_below d.start d.size (length d.put) some in (
      λ k e low within.
          let there : place_of d.start d.size k < d.size = place_below d.start d.size k some in
          stands_elsewhere words (place_of d.start d.size k) i w (get_or d.put k e) (λ j inside is. omega arith) (h.stand k e low within),
      λ k inside. get_or-set_other words i (cell_index (place_of d.start d.size (length d.put)) k) w 0 (λ e. omega arith) ∙ h.writing k inside,
    )

begun_more : (ws : List ℕ) (w : ℕ) → begun (ws ++ w ∷ []) ≡ 1
begun_more [] w = refl
begun_more (x ∷ xs) w = refl

-- a cell word is stored in the next cell
pub keeps_word_stored : (words : List ℕ) (a : AppSide) (d : KernelSide) (w : ℕ) → Agree words a d
    → length d.put < d.head_seen + d.size → length d.cell < 10
    → Agree (set words (cell_index (place_of d.start d.size (length d.put)) (length d.cell)) w) a (word_stored d w)
keeps_word_stored words a d w h room few =
    let n : ℕ = length d.put in
    let size : ℕ = d.size in
    let place : ℕ = place_of d.start size n in
    let index : ℕ = cell_index place (length d.cell) in
    let o = h.ordered in
    let some : 0 < size = some_size size h.sized.power in
    let below : place < size = place_below d.start size n some in
    let long = h.sized.many in
    record {
      sized = grind (arith, length-set);
      ordered = record { head_seen = o.head_seen; got = o.got; tail_seen = o.tail_seen; room = omega (arith, begun_more d.cell w) };
      tail = get_or-set_other words index (tail_index size) w 0 (λ e. omega arith) ∙ h.tail;
      head = get_or-set_other words index (head_index size) w 0 (λ e. omega arith) ∙ h.head;
      dropped = get_or-set_other words index (dropped_index size) w 0 (λ e. omega arith) ∙ h.dropped;
      small = h.small;
      whole = h.whole;
      stand = λ k e low within.
          let there : place_of d.start size k < size = place_below d.start size k some in
          let near : n < k + size = omega arith in
          let other : place_of d.start size k ≢ place = apart d.start size k n h.sized.power (omega (arith, h.sized.limit)) within near in
          stands_elsewhere words (place_of d.start size k) index w (get_or d.put k e) (λ j inside is. other (omega arith)) (h.stand k e low within);
      writing = one_more (λ k x. get_or (set words index w) (cell_index place k) 0 ≡ x) d.cell w 0
          (λ k inside. get_or-set_other words index (cell_index place k) w 0 (λ e. omega arith) ∙ h.writing k inside) (get_or-set_same words index w 0 (omega arith));
      few = omega (arith, length-append d.cell (w ∷ []));
      rest = h.rest;
      begins = h.begins;
      loaded = h.loaded;
    }

-- the tail is stored after the next cell, which is written whole
pub keeps_tail_stored : (words : List ℕ) (a : AppSide) (d : KernelSide) (w : ℕ) → Agree words a d
    → length d.put < d.head_seen + d.size → IsCell d.cell
    → w ≡ word_of d.start (length d.put + 1)
    → Agree (set words (tail_index d.size) w) a (tail_stored d)
keeps_tail_stored words a d w h room cell is_word =
    let size : ℕ = d.size in
    let index : ℕ = tail_index size in
    let long = h.sized.many in
    let others = others_stand words a d index w h (omega arith) in
    let many : length (d.put ++ d.cell ∷ []) ≡ length d.put + 1 = length-append d.put (d.cell ∷ []) in
    let o = h.ordered in
    record {
      sized = grind (arith, length-set);
      ordered = record { head_seen = o.head_seen; got = o.got; tail_seen = omega arith; room = omega arith };
      tail = get_or-set_same words index w 0 (omega arith) ∙ is_word ∙ ap (word_of d.start) (sym many);
      head = get_or-set_other words index (head_index size) w 0 (λ e. omega arith) ∙ h.head;
      dropped = get_or-set_other words index (dropped_index size) w 0 (λ e. omega arith) ∙ h.dropped;
      small = h.small;
      whole = λ k e. one_more (λ j x. IsCell x) d.put d.cell e (λ j inside. h.whole j e inside) cell k;
      stand = λ k e low within. one_more (λ j x. a.got ≤ j → StandsAt (set words index w) (place_of d.start size j) x) d.put d.cell e (λ j inside low'. others.0 j e low' inside) (λ _ j inside. others.1 j (omega (arith, cell.many))) k within low;
      writing = λ k none. absurd (omega arith);
      few = omega arith;
      rest = h.rest ++ d.cell ∷ [];
      begins = grind (arith, append_assoc);
      loaded = h.loaded;
    }

-- what was had is had by a word that has had more
pub had_more : (had more ws : List ℕ) → WereHad had ws → WereHad (had ++ more) ws
had_more had more [] h = tt
had_more had more (w ∷ ws) h = (h.0, h.1 ++ more, ap (λ l. l ++ more) h.2 ∙ append_assoc h.0 (w ∷ h.1) more, had_more (w ∷ h.1) more ws h.3)

-- the last of the words that were had
last_is : (v : ℕ) (vs : List ℕ) → (before : List ℕ) × (v ∷ vs ≡ before ++ last_of v vs ∷ [])
last_is v [] = ([], refl)
last_is v (x ∷ xs) = let r = last_is x xs in (v ∷ r.0, ap (λ l. v ∷ l) r.1)

-- the last word is that of what comes last
last_after : (v : ℕ) (before : List ℕ) (w : ℕ) (after : List ℕ)
    → last_of v (before ++ w ∷ after) ≡ last_of w after
last_after v [] w after = refl
last_after v (x ∷ xs) w after = last_after x xs w after

-- the word that stands there is the last that was had
pub had_last : (v : ℕ) (vs ws : List ℕ) → WereHad (v ∷ vs) ws
    → WereHad (v ∷ vs) (ws ++ last_of v vs ∷ [])
had_last v vs [] h = let r = last_is v vs in (r.0, [], r.1, tt)
had_last v vs (w ∷ ws) h =
    (h.0, h.1, h.2, grind (arith, had_last w h.1 ws h.3, last_after 0 h.0 w h.1, ap (last_of 0) h.2))

-- the dropped word is stored
pub keeps_dropped_stored : (words : List ℕ) (a : AppSide) (d : KernelSide) (w : ℕ) → Agree words a d
    → w < 2 ^ 32 → Agree (set words (dropped_index d.size) w) a (dropped_stored d w)
keeps_dropped_stored words a d w h is_small =
    let size : ℕ = d.size in
    let index : ℕ = dropped_index size in
    let long = h.sized.many in
    let others = others_stand words a d index w h (omega arith) in
    let last = last_after 0 d.dropped w [] in
    record {
      sized = grind (arith, length-set);
      ordered = grind arith;
      tail = get_or-set_other words index (tail_index size) w 0 (λ e. omega arith) ∙ h.tail;
      head = get_or-set_other words index (head_index size) w 0 (λ e. omega arith) ∙ h.head;
      dropped = get_or-set_same words index w 0 (omega arith) ∙ sym last;
      small = rw last is_small;
      whole = h.whole;
      stand = others.0;
      writing = others.1;
      few = h.few;
      rest = h.rest;
      begins = h.begins;
      loaded = had_more (0 ∷ d.dropped) (w ∷ []) a.dropped h.loaded;
    }

-- the head is loaded
pub keeps_head_loaded : (words : List ℕ) (a : AppSide) (d : KernelSide) → Agree words a d
    → Agree words a (head_loaded d a.got)
keeps_head_loaded words a d h = grind arith

-- the tail is loaded: all that was put is known
pub keeps_tail_loaded : (words : List ℕ) (a : AppSide) (d : KernelSide) → (h : Agree words a d)
    → Agree words (tail_loaded a h.rest) d
keeps_tail_loaded words a d h = grind (arith, append_assoc, length-append, append-nil)

-- a word of the first known completion is loaded
keeps_either : (words : List ℕ) (a : AppSide) (d : KernelSide) (c : List ℕ) (cs : List (List ℕ))
    → Agree words a d → a.known ≡ c ∷ cs → (b : Bool)
    → Agree words (if b then copied_one a c cs else record a { loaded = a.loaded + 1 }) d
keeps_either words a d c cs h is all = grind (arith, length-append, append_assoc)

keeps_known : (words : List ℕ) (a : AppSide) (d : KernelSide) → Agree words a d
    → (cs : List (List ℕ)) → a.known ≡ cs → Agree words (loaded_of a cs) d
keeps_known words a d h cs is = grind (arith, keeps_either)

pub keeps_word_loaded : (words : List ℕ) (a : AppSide) (d : KernelSide) → Agree words a d
    → Agree words (word_loaded a) d
keeps_word_loaded words a d h = keeps_known words a d h a.known refl

-- the dropped word is loaded
pub keeps_dropped_loaded : (words : List ℕ) (a : AppSide) (d : KernelSide) → (h : Agree words a d)
    → Agree words (dropped_loaded a (last_of 0 d.dropped)) d
keeps_dropped_loaded words a d h = grind (arith, had_last 0 d.dropped a.dropped h.loaded)

-- the first known completion is the next that was put
known_at : (words : List ℕ) (a : AppSide) (d : KernelSide) (c : List ℕ) (cs : List (List ℕ))
    → (h : Agree words a d) → a.known ≡ c ∷ cs
    → (get_or d.put (length a.copied) c ≡ c) × (length a.copied < length d.put)
known_at words a d c cs h is = grind (arith, append_assoc, get_or-append_seam, length-append)

-- so its words stand, and are ten
pub known_stands : (words : List ℕ) (a : AppSide) (d : KernelSide) (c : List ℕ) (cs : List (List ℕ))
    → Agree words a d → a.known ≡ c ∷ cs
    → StandsAt words (place_of a.start a.size (length a.copied)) c × (length c ≡ 10)
known_stands words a d c cs h is = grind (arith, known_at words a d c cs h is, h.stand (length a.copied) c, h.whole (length a.copied) c)

-- the head is stored after all that was copied
pub keeps_head_stored : (words : List ℕ) (a : AppSide) (d : KernelSide) (w : ℕ) → Agree words a d
    → w ≡ word_of a.start (length a.copied)
    → Agree (set words (head_index a.size) w) (head_stored a) d
keeps_head_stored words a d w h is_word =
    let size : ℕ = d.size in
    let index : ℕ = head_index size in
    let long = h.sized.many in
    let o = h.ordered in
    let others = others_stand words a d index w h (omega arith) in
    rw h.sized.size (record {
      sized = grind (arith, length-set);
      ordered = grind arith;
      tail = get_or-set_other words index (tail_index size) w 0 (λ e. omega arith) ∙ h.tail;
      head = get_or-set_same words index w 0 (omega arith) ∙ is_word ∙ ap (λ s. word_of s (length a.copied)) h.sized.start;
      dropped = get_or-set_other words index (dropped_index size) w 0 (λ e. omega arith) ∙ h.dropped;
      small = h.small;
      whole = h.whole;
      stand = λ k e low within. others.0 k e (omega (arith, o.got)) within;
      writing = others.1;
      few = h.few;
      rest = h.rest;
      begins = h.begins;
      loaded = h.loaded;
    })
