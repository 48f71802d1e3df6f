-- Which words are a position's, what it holds, and what loading its words makes of what the dispatcher knows.
use Rattle.std.proofs.Common.{◌≡◌, ℕ, eqb, ◌+◌, ◌<◌, true, List, ◌∷◌, length, if◌then◌else◌, refl, arith, eq-eqb}
use Rattle.uring_ports.specs.declared.item.Item.TheVariants as item
use Rattle.uring_words.specs.Submission.Calls.{item_from}
use Rattle.uring_words.specs.Submission.Ends.{copied_one}
use Rattle.uring_words.specs.Submission.Layout.{has_entry}
use Rattle.uring_words.specs.Submission.Steps.{word_loaded, MarkTold}
use Rattle.uring_words.specs.declared.submission.view.KernelSide.{KernelSide}
use Rattle.uring_words.specs.declared.submission.view.Position.{Position}

-- entry words hold an entry
pub item_with_words : (mark : ℕ) (entry : List ℕ) → length entry ≡ 16
    → item_from mark entry ≡ item.Entry entry
item_with_words mark given many = grind arith

-- what the dispatcher knows once this many entry words of the first known position are loaded
abbrev pub loaded_to : KernelSide → Position → List Position → ℕ → KernelSide
loaded_to d p ps k =
    if eqb k (length p.entry) then copied_one d p ps else record d { loaded = k + 1 }

-- with one entry word more
pub word_is_loaded : (d : KernelSide) (p : Position) (ps : List Position) (k : ℕ) → d.known ≡ p ∷ ps
    → k < length p.entry → word_loaded (loaded_to d p ps k) ≡ loaded_to d p ps (k + 1)
word_is_loaded d p ps k known more = grind arith

-- at the last of them it is copied
pub all_is_loaded : (d : KernelSide) (p : Position) (ps : List Position) (k : ℕ)
    → k ≡ length p.entry → loaded_to d p ps k ≡ copied_one d p ps
all_is_loaded d p ps k all = rw (eq-eqb k (length p.entry) all) refl

pub not_all_loaded : (d : KernelSide) (p : Position) (ps : List Position) (k : ℕ)
    → k < length p.entry → loaded_to d p ps k ≡ record d { loaded = k + 1 }
not_all_loaded d p ps k more = grind arith

-- what an array word of an entry tells: it is loaded, and 16 words more
pub mark_first : (d : KernelSide) (mark : ℕ) → (t : MarkTold d mark) → d.loaded ≡ 0
    → has_entry d.size mark ≡ true
    → (word_loaded d ≡ record d { loaded = 1 }) × (length t.first.entry ≡ 16)
mark_first d mark t none has = grind arith
