-- The rule of the completion ring's table, which holds between any two steps. Our own rule, for what io_uring(7), Reading completion events, asks of the two sides.
use Rattle.std.specs.Prelude.{◌≡◌, ℕ, ◌+◌, ◌^◌, ◌<◌, ◌≤◌, List, [], ◌∷◌, ◌++◌, length, slice_index, slice_index_or}
use Rattle.std.specs.Int.{IsPowerOfTwo}
use Rattle.atomic_table.specs.Table.{State}
use Rattle.uring_entry.specs.IndexWords.{word_of}
use Rattle.uring_ports.specs.Dropped.{WereHad}
use Rattle.uring_words.specs.Completion.Layout.{cell_index, tail_index, head_index, dropped_index, word_count, IsCell, StandsAt}
use Rattle.uring_words.specs.Places.{place_of}
use Rattle.uring_words.specs.Sides.{AgreeBy, both_know}
use Rattle.uring_words.specs.declared.completion.view.AppSide.{AppSide}
use Rattle.uring_words.specs.declared.completion.view.KernelSide.{KernelSide}
use Rattle.uring_words.specs.declared.sides.Shape.{Shape}
use Rattle.uring_words.specs.declared.sides.View.{View}

-- the last of these words, or the one before them
abbrev pub last_of : ℕ → List ℕ → ℕ
last_of w [] = w
last_of w (x ∷ xs) = last_of x xs

-- the count at the tail that the application last saw
abbrev pub tail_seen : AppSide → ℕ
tail_seen a = length a.copied + length a.known

-- how many cells the dispatcher has begun to write above those that it put, by the words that it stored of the next one
abbrev pub begun : List ℕ → ℕ
begun [] = 0
begun (w ∷ ws) = 1

-- The sizes of the table are those that both sides know.
pub record AreSized (words : List ℕ) (a : AppSide) (d : KernelSide) : Type 0 where
  pub start : a.start ≡ d.start
  pub size : a.size ≡ d.size
  pub power : IsPowerOfTwo d.size
  pub limit : d.size ≤ 8192
  pub many : length words ≡ word_count d.size

-- head seen ≤ got ≤ copied ≤ tail seen ≤ put, and no more cells put or begun than the ring has above the head seen
pub record AreInOrder (a : AppSide) (d : KernelSide) : Type 0 where
  pub head_seen : d.head_seen ≤ a.got
  pub got : a.got ≤ length a.copied
  pub tail_seen : tail_seen a ≤ length d.put
  pub room : length d.put + begun d.cell ≤ d.head_seen + d.size

-- What the application and the dispatcher know of the table, between any two steps: the cells at every count from the head on, below the tail, hold what the dispatcher put there, ten words with no flags, and the next one what it stored there; what the application copied, and then what it knows to be there, begins what was put; the dropped word is the last that the dispatcher stored, and those that the application loaded are, in order, words that it had.
pub record Agree (words : List ℕ) (a : AppSide) (d : KernelSide) : Type 0 where
  pub sized : AreSized words a d
  pub ordered : AreInOrder a d
  pub tail : slice_index words (tail_index d.size) ≡ word_of d.start (length d.put)
  pub head : slice_index words (head_index d.size) ≡ word_of d.start a.got
  pub dropped : slice_index words (dropped_index d.size) ≡ last_of 0 d.dropped
  pub small : last_of 0 d.dropped < 2 ^ 32
  pub whole : (k : ℕ) (e : List ℕ) → k < length d.put → IsCell (slice_index_or d.put k e)
  pub stand : (k : ℕ) (e : List ℕ) → a.got ≤ k → k < length d.put
      → StandsAt words (place_of d.start d.size k) (slice_index_or d.put k e)
  pub writing : (k : ℕ) → k < length d.cell
      → slice_index words (cell_index (place_of d.start d.size (length d.put)) k)
      ≡ slice_index d.cell k
  pub few : length d.cell ≤ 10
  pub rest : List (List ℕ)
  pub begins : d.put ≡ (a.copied ++ a.known) ++ rest
  pub loaded : WereHad (0 ∷ d.dropped) a.dropped

-- The rule: there is one application and one dispatcher, who agree.
abbrev pub BothAgree : State (Unit {0}) (View AppSide KernelSide) → Type 0
BothAgree s = AgreeBy Agree s

-- what the first seat knows, which is both sides'
abbrev pub at_first : Shape → View AppSide KernelSide
at_first k = both_know
    (record { start = k.start; size = k.size; copied = []; known = []; loaded = 0; got = 0; looks = 0; dropped = [] })
    (record { start = k.start; size = k.size; put = []; cell = []; head_seen = 0; looks = 0; dropped = [] })
