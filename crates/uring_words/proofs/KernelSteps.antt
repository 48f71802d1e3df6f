-- The dispatcher's steps keep the agreement.
use Rattle.std.proofs.Common.{◌≡◌, ℕ, ◌+◌, ◌<◌, Bool, List, [], ◌∷◌, ◌++◌, length, get_or, set, if◌then◌else◌, refl, ◌∙◌, ap, arith, append_assoc, append-nil, length-append, length-set, get_or-set_other, get_or-set_same}
use Rattle.std.proofs.Math.Seq.{get_or-append_seam}
use Rattle.uring_entry.specs.IndexWords.{word_of}
use Rattle.uring_words.specs.Places.{place_of}
use Rattle.uring_words.specs.Submission.Layout.{tail_index, head_index, IsPosition, StandsAt}
use Rattle.uring_words.specs.Submission.Rule.{stored, Agree}
use Rattle.uring_words.specs.Submission.Steps.{tail_loaded, loaded_of, word_loaded, head_stored}
use Rattle.uring_words.specs.declared.submission.view.AppSide.{AppSide}
use Rattle.uring_words.specs.declared.submission.view.KernelSide.{KernelSide}
use Rattle.uring_words.specs.declared.submission.view.Position.{Position}
use Rattle.uring_words.proofs.AppSteps.{others_stand}

-- the tail is loaded: all that was published is known
pub keeps_tail_loaded : (words : List ℕ) (a : AppSide) (d : KernelSide) → (h : Agree words a d)
    → Agree words a (tail_loaded d h.rest)
keeps_tail_loaded words a d h = grind (arith, append_assoc, length-append, append-nil)

-- a word of the first known position is loaded
keeps_either : (words : List ℕ) (a : AppSide) (d : KernelSide) (p : Position) (ps : List Position)
    → Agree words a d → d.known ≡ p ∷ ps → (b : Bool)
    → Agree words a (if b then record d { copied = d.copied ++ p ∷ []; known = ps; loaded = 0 } else record d { loaded = d.loaded + 1 })
keeps_either words a d p ps h is given = grind (arith, length-append, append_assoc)

keeps_known : (words : List ℕ) (a : AppSide) (d : KernelSide) → Agree words a d
    → (ps : List Position) → d.known ≡ ps → Agree words a (loaded_of d ps)
keeps_known words a d h given is = grind (arith, keeps_either)

pub keeps_word_loaded : (words : List ℕ) (a : AppSide) (d : KernelSide) → Agree words a d
    → Agree words a (word_loaded d)
keeps_word_loaded words a d h = keeps_known words a d h d.known refl

-- the first known position is the next stored one
pub known_at : (words : List ℕ) (a : AppSide) (d : KernelSide) (p : Position) (ps : List Position)
    → (h : Agree words a d) → d.known ≡ p ∷ ps
    → (get_or (stored a) (length d.copied) p ≡ p) × (length d.copied < length (stored a))
known_at words a d p ps h is = grind (arith, append_assoc, get_or-append_seam, length-append)

-- so its words stand, and are a position's
pub known_stands : (words : List ℕ) (a : AppSide) (d : KernelSide) (p : Position) (ps : List Position)
    → Agree words a d → d.known ≡ p ∷ ps
    → StandsAt words d.size (place_of d.start d.size (length d.copied)) p
    × IsPosition d.size (place_of d.start d.size (length d.copied)) p
known_stands words a d p ps h is = grind (arith, known_at words a d p ps h is, h.stand (length d.copied) p, h.formed (length d.copied) p)

-- the head is stored after all that was copied
pub keeps_head_stored : (words : List ℕ) (a : AppSide) (d : KernelSide) (w : ℕ) → Agree words a d
    → w ≡ word_of d.start (length d.copied)
    → Agree (set words (head_index d.size) w) a (head_stored d)
keeps_head_stored words a d w h is_word =
    let index : ℕ = head_index a.size in
    let long = h.sized.many in
    let o = h.ordered in
    let others = others_stand words a d index w h (omega arith) in
    rw h.sized.size (record {
      sized = grind (arith, length-set);
      ordered = grind arith;
      tail = get_or-set_other words index (tail_index a.size) w 0 (λ e. omega arith) ∙ h.tail;
      head = get_or-set_same words index w 0 (omega arith) ∙ is_word ∙ ap (λ s. word_of s (length d.copied)) h.sized.start;
      formed = h.formed;
      stand = λ k e low within. others.0 k e (omega (arith, o.taken)) within;
      writing = others.1;
      few = h.few;
      rest = h.rest;
      begins = h.begins;
      whole = h.whole;
    })
