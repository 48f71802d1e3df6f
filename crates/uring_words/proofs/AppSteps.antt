-- The application's steps keep the agreement.
use Rattle.std.proofs.Common.{◌⊎◌, inl, inr, ◌≡◌, ◌≢◌, ℕ, ◌+◌, ◌<◌, ◌≤◌, List, [], ◌∷◌, ◌++◌, length, get_or, set, refl, ◌∙◌, ap, arith, append_assoc, append-nil, length-append, length-set, get_or-set_other, get_or-set_same}
use Rattle.uring_entry.specs.IndexWords.{word_of}
use Rattle.uring_words.specs.Submission.Calls.{AreWhole}
use Rattle.uring_words.specs.Places.{place_of}
use Rattle.uring_words.specs.Submission.Layout.{entry_index, array_index, tail_index, head_index, IsPosition, StandsAt}
use Rattle.uring_words.specs.Submission.Rule.{stored, AreSized, Agree}
use Rattle.uring_words.specs.Submission.Steps.{word_stored, mark_stored, tail_stored, head_loaded}
use Rattle.uring_words.specs.declared.submission.view.AppSide.{AppSide}
use Rattle.uring_words.specs.declared.submission.view.KernelSide.{KernelSide}
use Rattle.uring_words.specs.declared.submission.view.Position.{Position}
use Rattle.uring_words.proofs.Standing.{some_size, few_words, place_below, apart, stands_elsewhere, one_more}

-- the sizes of the table after a store
resized : (words : List ℕ) (i w : ℕ) (a b : AppSide) (d : KernelSide) → b.start ≡ a.start
    → b.size ≡ a.size → AreSized words a d → AreSized (set words i w) b d
resized words i w a b d start size s = grind (arith, length-set)

-- a store of the tail or of the head leaves the words of the positions as they were
pub others_stand : (words : List ℕ) (a : AppSide) (d : KernelSide) (i w : ℕ) → Agree words a d
    → tail_index a.size ≤ i
    → ((k : ℕ) (e : Position) → d.taken ≤ k → k < length (stored a) → StandsAt (set words i w) a.size (place_of a.start a.size k) (get_or (stored a) k e))
    × ((k : ℕ) → k < length a.entry → get_or (set words i w) (entry_index (place_of a.start a.size (length (stored a))) k) 0 ≡ get_or a.entry k 0)
others_stand words a d i w h after =
    let some : 0 < a.size = some_size a.size h.sized.power in
    let few = h.few in
    let next : place_of a.start a.size (length (stored a)) < a.size = place_below a.start a.size (length (stored a)) some in (
      λ k e low within.
          let p : Position = get_or (stored a) k e in
          let there : place_of a.start a.size k < a.size = place_below a.start a.size k some in
          let words_of_p = few_words a.size (place_of a.start a.size k) p (h.formed k e within) in
          stands_elsewhere words a.size (place_of a.start a.size k) i w p (λ is. omega arith) (λ j inside is. omega arith) (h.stand k e low within),
      λ k inside. get_or-set_other words i (entry_index (place_of a.start a.size (length (stored a))) k) w 0 (λ e. omega arith) ∙ h.writing k inside,
    )

-- a store of a word of the next place leaves those of the others, the tail and the head as they were
next_stored : (words : List ℕ) (a : AppSide) (d : KernelSide) (i w : ℕ) → Agree words a d
    → length (stored a) < a.head_seen + a.size
    → (let place = place_of a.start a.size (length (stored a)) in ((entry_index place 0 ≤ i) × (i < entry_index place 16)) ⊎ (i ≡ array_index a.size place))
    → (get_or (set words i w) (tail_index a.size) 0 ≡ word_of a.start (length a.published))
    × (get_or (set words i w) (head_index a.size) 0 ≡ word_of a.start d.taken)
    × ((k : ℕ) (e : Position) → d.taken ≤ k → k < length (stored a) → StandsAt (set words i w) a.size (place_of a.start a.size k) (get_or (stored a) k e))
next_stored words a d i w h room here =
    let n : ℕ = length (stored a) in
    let size : ℕ = a.size in
    let some : 0 < size = some_size size h.sized.power in
    let below : place_of a.start size n < size = place_below a.start size n some in (
      get_or-set_other words i (tail_index size) w 0 (λ e. grind arith) ∙ h.tail,
      get_or-set_other words i (head_index size) w 0 (λ e. grind arith) ∙ h.head,
      λ k e low within.
          let p : Position = get_or (stored a) k e in
          let words_of_p = few_words size (place_of a.start size k) p (h.formed k e within) in
          let there : place_of a.start size k < size = place_below a.start size k some in
          let near : n < k + size = omega (arith, h.ordered.head_seen) in
          let other : place_of a.start size k ≢ place_of a.start size n = apart a.start size k n h.sized.power (omega (arith, h.sized.limit)) within near in
          stands_elsewhere words size (place_of a.start size k) i w p (λ is. grind arith) (λ j inside is. grind arith) (h.stand k e low within),
    )

-- an entry word is stored where the next position goes
pub keeps_word_stored : (words : List ℕ) (a : AppSide) (d : KernelSide) (w : ℕ) → Agree words a d
    → length (stored a) < a.head_seen + a.size → length a.entry < 16
    → Agree (set words (entry_index (place_of a.start a.size (length (stored a))) (length a.entry)) w) (word_stored a w) d
keeps_word_stored words a d w h room few =
    let place : ℕ = place_of a.start a.size (length (stored a)) in
    let index : ℕ = entry_index place (length a.entry) in
    let below : place < a.size = place_below a.start a.size (length (stored a)) (some_size a.size h.sized.power) in
    let long = h.sized.many in
    let r = next_stored words a d index w h room (inl (omega arith, omega arith)) in
    record {
      sized = resized words index w a (word_stored a w) d refl refl h.sized;
      ordered = grind arith;
      tail = r.0;
      head = r.1;
      formed = h.formed;
      stand = r.2;
      writing = one_more (λ k x. get_or (set words index w) (entry_index place k) 0 ≡ x) a.entry w 0
          (λ k inside. get_or-set_other words index (entry_index place k) w 0 (λ e. omega arith) ∙ h.writing k inside) (get_or-set_same words index w 0 (omega arith));
      few = omega (arith, length-append a.entry (w ∷ []));
      rest = h.rest;
      begins = h.begins;
      whole = h.whole;
    }

-- an array word is stored where the next position goes, if that is now whole
pub keeps_mark_stored : (words : List ℕ) (a : AppSide) (d : KernelSide) (w : ℕ) → Agree words a d
    → length (stored a) < a.head_seen + a.size
    → IsPosition a.size (place_of a.start a.size (length (stored a))) (record { mark = w; entry = a.entry })
    → Agree (set words (array_index a.size (place_of a.start a.size (length (stored a)))) w) (mark_stored a w) d
keeps_mark_stored words a d w h room new =
    let p : Position = record { mark = w; entry = a.entry } in
    let n : ℕ = length (stored a) in
    let size : ℕ = a.size in
    let place : ℕ = place_of a.start size n in
    let index : ℕ = array_index size place in
    let below : place < size = place_below a.start size n (some_size size h.sized.power) in
    let long = h.sized.many in
    let few = h.few in
    let r = next_stored words a d index w h room (inr refl) in
    let own : d.taken ≤ n → StandsAt (set words index w) size place p = λ _. record {
      mark = get_or-set_same words index w 0 (omega arith);
      entry = λ i inside. get_or-set_other words index (entry_index place i) w 0 (λ e. omega arith) ∙ h.writing i inside;
    } in
    record {
      sized = resized words index w a (mark_stored a w) d refl refl h.sized;
      ordered = grind (arith, length-append);
      tail = r.0;
      head = r.1;
      formed = rw (← append_assoc) (λ k e. one_more (λ j x. IsPosition size (place_of a.start size j) x) (stored a) p e (λ j. h.formed j e) new k);
      stand = rw (← append_assoc) (λ k e low within. one_more (λ j x. d.taken ≤ j → StandsAt (set words index w) size (place_of a.start size j) x) (stored a) p e (λ j inside low'. r.2 j e low' inside) own k within low);
      writing = λ k none. absurd (omega arith);
      few = omega arith;
      rest = h.rest;
      begins = h.begins;
      whole = h.whole;
    }

-- the tail is stored after all that is staged
pub keeps_tail_stored : (words : List ℕ) (a : AppSide) (d : KernelSide) (w : ℕ) → Agree words a d
    → a.entry ≡ [] → w ≡ word_of a.start (length (stored a)) → AreWhole (stored a)
    → Agree (set words (tail_index a.size) w) (tail_stored a) d
keeps_tail_stored words a d w h none is_word whole =
    let index : ℕ = tail_index a.size in
    let long = h.sized.many in
    let others = others_stand words a d index w h (omega arith) in
    record {
      sized = resized words index w a (tail_stored a) d refl refl h.sized;
      ordered = grind (arith, length-append);
      tail = get_or-set_same words index w 0 (omega arith) ∙ is_word;
      head = get_or-set_other words index (head_index a.size) w 0 (λ e. omega arith) ∙ h.head;
      formed = rw append-nil h.formed;
      stand = rw append-nil others.0;
      writing = λ k inside. absurd (omega (arith, ap length none));
      few = h.few;
      rest = h.rest ++ a.staged;
      begins = grind (arith, append_assoc);
      whole = whole;
    }

-- the head is loaded
pub keeps_head_loaded : (words : List ℕ) (a : AppSide) (d : KernelSide) → Agree words a d
    → Agree words (head_loaded a d.taken) d
keeps_head_loaded words a d h = grind arith
