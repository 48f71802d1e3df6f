-- The rule of the submission ring's table, which holds between any two steps. Our own rule, for what io_uring(7), Submitting I/O requests, asks of the two sides.
use Rattle.std.specs.Prelude.{◌≡◌, ℕ, ◌+◌, ◌<◌, ◌≤◌, List, [], ◌++◌, length, slice_index, slice_index_or}
use Rattle.std.specs.Int.{IsPowerOfTwo}
use Rattle.atomic_table.specs.Table.{State}
use Rattle.uring_entry.specs.IndexWords.{word_of}
use Rattle.uring_words.specs.Sides.{AgreeBy, both_know}
use Rattle.uring_words.specs.Submission.Calls.{AreWhole}
use Rattle.uring_words.specs.Places.{place_of}
use Rattle.uring_words.specs.Submission.Layout.{entry_index, tail_index, head_index, word_count, IsPosition, StandsAt}
use Rattle.uring_words.specs.declared.submission.view.AppSide.{AppSide}
use Rattle.uring_words.specs.declared.submission.view.KernelSide.{KernelSide}
use Rattle.uring_words.specs.declared.submission.view.Position.{Position}
use Rattle.uring_words.specs.declared.sides.Shape.{Shape}
use Rattle.uring_words.specs.declared.sides.View.{View}

-- every position that the application stored whole, oldest first: those published, then those staged
abbrev pub stored : AppSide → List Position
stored a = a.published ++ a.staged

-- the count at the tail that the dispatcher last saw
abbrev pub tail_seen : KernelSide → ℕ
tail_seen d = length d.copied + length d.known

-- The sizes of the table are those that both sides know.
pub record AreSized (words : List ℕ) (a : AppSide) (d : KernelSide) : Type 0 where
  pub start : d.start ≡ a.start
  pub size : d.size ≡ a.size
  pub power : IsPowerOfTwo a.size
  pub limit : a.size ≤ 4096
  pub many : length words ≡ word_count a.size

-- head seen ≤ taken ≤ copied ≤ tail seen ≤ published, and no more stored than the ring has room for above the head seen
pub record AreInOrder (a : AppSide) (d : KernelSide) : Type 0 where
  pub head_seen : a.head_seen ≤ d.taken
  pub taken : d.taken ≤ length d.copied
  pub tail_seen : tail_seen d ≤ length a.published
  pub room : length (stored a) ≤ a.head_seen + a.size

-- What the application and the dispatcher know of the table, between any two steps: the words at every count from the head on, below what was stored, are those that the application recorded for it; what the dispatcher copied, and then what it knows to be there, begins what was published, which is whole calls.
pub record Agree (words : List ℕ) (a : AppSide) (d : KernelSide) : Type 0 where
  pub sized : AreSized words a d
  pub ordered : AreInOrder a d
  pub tail : slice_index words (tail_index a.size) ≡ word_of a.start (length a.published)
  pub head : slice_index words (head_index a.size) ≡ word_of a.start d.taken
  pub formed : (k : ℕ) (e : Position) → k < length (stored a)
      → IsPosition a.size (place_of a.start a.size k) (slice_index_or (stored a) k e)
  pub stand : (k : ℕ) (e : Position) → d.taken ≤ k → k < length (stored a)
      → StandsAt words a.size (place_of a.start a.size k) (slice_index_or (stored a) k e)
  pub writing : (k : ℕ) → k < length a.entry
      → slice_index words (entry_index (place_of a.start a.size (length (stored a))) k)
      ≡ slice_index a.entry k
  pub few : length a.entry ≤ 16
  pub rest : List Position
  pub begins : a.published ≡ (d.copied ++ d.known) ++ rest
  pub whole : AreWhole a.published

-- The rule: there is one application and one dispatcher, who agree.
abbrev pub BothAgree : State (Unit {0}) (View AppSide KernelSide) → Type 0
BothAgree s = AgreeBy Agree s

-- what the first seat knows, which is both sides'
abbrev pub at_first : Shape → View AppSide KernelSide
at_first k = both_know
    (record { start = k.start; size = k.size; published = []; staged = []; entry = []; head_seen = 0; looks = 0 })
    (record { start = k.start; size = k.size; copied = []; known = []; loaded = 0; taken = 0; looks = 0 })
