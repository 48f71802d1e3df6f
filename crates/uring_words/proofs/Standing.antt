-- What a store leaves as it was, and lists that grow by one position.
use Rattle.std.proofs.Common.{◌≡◌, ◌≢◌, ℕ, ◌+◌, ◌%◌, ◌^◌, ◌<◌, ◌≤◌, Bool, List, [], ◌∷◌, ◌++◌, length, get_or, set, if◌then◌else◌, refl, sym, ◌∙◌, ap, arith, length-append, get_or-set_other}
use Rattle.std.proofs.lemmas.List.{get_or_append_left}
use Rattle.std.proofs.Math.Seq.{get_or-append_seam}
use Rattle.std.proofs.lemmas.Nat.{mod_below, pow_pos}
use Rattle.std.specs.Int.{IsPowerOfTwo}
use Rattle.uring_entry.specs.IndexWords.{word_of}
use Rattle.uring_rings.proofs.Counts.{same_cell}
use Rattle.uring_words.specs.Places.{place_of}
use Rattle.uring_words.specs.Submission.Layout.{entry_index, array_index, has_entry, IsPosition, StandsAt}
use Rattle.uring_words.specs.declared.submission.view.Position.{Position}

few_if : (b : Bool) (n : ℕ) → n ≡ (if b then 16 else 0) → n ≤ 16
few_if given n is = grind arith

-- a position has at most 16 entry words
pub few_words : (size place : ℕ) (p : Position) → IsPosition size place p → length p.entry ≤ 16
few_words size place p formed = few_if (has_entry size p.mark) (length p.entry) formed.entry

pub some_size : (size : ℕ) → IsPowerOfTwo size → 0 < size
some_size size power = rw power.1 (pow_pos power.0)

pub place_below : (start size count : ℕ) → 0 < size → place_of start size count < size
place_below start size count some = mod_below (word_of start count) size some

-- the place of an index word
pub at_place : (start size own count word : ℕ) → own ≡ size → IsPowerOfTwo size
    → word ≡ word_of start count → (word % size ≡ place_of start own count) × (word % size < size)
at_place start size own count word is power at = (
  ap (λ w. w % size) at ∙ ap (λ s. place_of start s count) (sym is),
  mod_below word size (some_size size power),
)

-- two counts less than the size apart have places of their own
pub apart : (start size j k : ℕ) → IsPowerOfTwo size → size ≤ 2 ^ 32 → j < k → k < j + size
    → place_of start size j ≢ place_of start size k
apart start size j k power fits before near e = grind (arith, same_cell)

pub stands_elsewhere : (words : List ℕ) (size place i w : ℕ) (p : Position)
    → i ≢ array_index size place → ((k : ℕ) → k < length p.entry → i ≢ entry_index place k)
    → StandsAt words size place p → StandsAt (set words i w) size place p
stands_elsewhere words size place i w p array entry s = record {
  mark = get_or-set_other words i (array_index size place) w 0 (λ e. array (sym e)) ∙ s.mark;
  entry = λ k below. get_or-set_other words i (entry_index place k) w 0 (λ e. entry k below (sym e)) ∙ s.entry k below;
}

module _ {A : Type 0} where
  pub some_first : (xs : List A) → 0 < length xs → (x : A) × (rest : List A) × (xs ≡ x ∷ rest)
  some_first [] some = absurd (omega arith)
  some_first (x ∷ rest) some = (x, rest, refl)

  -- what holds at each index, and of one element more, holds at each index of the longer list
  pub one_more : (Q : ℕ → A → Type 0) (xs : List A) (x e : A)
      → ((k : ℕ) → k < length xs → Q k (get_or xs k e)) → Q (length xs) x
      → (k : ℕ) → k < length (xs ++ x ∷ []) → Q k (get_or (xs ++ x ∷ []) k e)
  one_more Q xs x e below here k within = grind (arith, length-append, get_or-append_seam, get_or_append_left)
