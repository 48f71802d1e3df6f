-- The words of the submission ring's table, and what they say. That each is a word of 64 bits, and all that the array words say beside a slot, is our own rule.
use Rattle.std.specs.Prelude.{◌≡◌, ℕ, ◌+◌, ◌*◌, ◌/◌, ◌%◌, ◌^◌, ◌<◌, Bool, true, false, ◌==◌, not, ◌&&◌, nat_lt, List, length, slice_index, if◌then◌else◌}
use Rattle.uring_words.specs.declared.submission.view.Position.{Position}

-- Each slot has 16 entry words. After those of all slots come the array words, one a place, the tail word and the head word. io_uring(7), Setting up io_uring

-- entry word k of a slot
abbrev pub entry_index : ℕ → ℕ → ℕ
entry_index slot k = 16 * slot + k

-- the array word of a place, in a ring of this size
abbrev pub array_index : ℕ → ℕ → ℕ
array_index size place = 16 * size + place

abbrev pub tail_index : ℕ → ℕ
tail_index size = 17 * size

abbrev pub head_index : ℕ → ℕ
head_index size = 17 * size + 1

abbrev pub word_count : ℕ → ℕ
word_count size = 17 * size + 2

-- The close mark is bit 33 alone.
abbrev pub close_mark : ℕ
close_mark = 2 ^ 33

-- whether an array word is the close mark
abbrev pub closes : ℕ → Bool
closes mark = mark == close_mark

-- whether an array word is that of the last item of a call: bit 32, and no bit above it
abbrev pub ends_call : ℕ → Bool
ends_call mark = mark / 2 ^ 32 == 1

-- the low half of an array word: the slot of an entry, or a word that names no slot
abbrev pub slot_of : ℕ → ℕ
slot_of mark = mark % 2 ^ 32

-- whether an array word is that of an entry
abbrev pub has_entry : ℕ → ℕ → Bool
has_entry size mark = not (closes mark) && nat_lt (slot_of mark) size

-- What the application records for a place: an array word, which is the close mark or has no bit above bit 32, and 16 entry words if that names the place's own slot, or else none.
pub record IsPosition (size place : ℕ) (p : Position) : Type 0 where
  pub high : closes p.mark ≡ false → p.mark < 2 ^ 33
  pub entry : length p.entry ≡ (if has_entry size p.mark then 16 else 0)
  pub own_slot : has_entry size p.mark ≡ true → slot_of p.mark ≡ place

-- the words at a place are those that were recorded
pub record StandsAt (words : List ℕ) (size place : ℕ) (p : Position) : Type 0 where
  pub mark : slice_index words (array_index size place) ≡ p.mark
  pub entry : (k : ℕ) → k < length p.entry
      → slice_index words (entry_index place k) ≡ slice_index p.entry k
