-- The words of the completion ring's table. That each is a word of 64 bits is our own rule.
use Rattle.std.specs.Prelude.{◌≡◌, ℕ, ◌+◌, ◌*◌, ◌^◌, ◌<◌, List, length, slice_index}

-- Each cell has 10 words, those of a completion. After those of all cells come the tail word and the head word, io_uring(7), Reading completion events, and the dropped word, io_uring_setup(2), on dropped; that this one stands there is our own rule.

-- word k of a cell
abbrev pub cell_index : ℕ → ℕ → ℕ
cell_index cell k = 10 * cell + k

abbrev pub tail_index : ℕ → ℕ
tail_index size = 10 * size

abbrev pub head_index : ℕ → ℕ
head_index size = 10 * size + 1

abbrev pub dropped_index : ℕ → ℕ
dropped_index size = 10 * size + 2

abbrev pub word_count : ℕ → ℕ
word_count size = 10 * size + 3

-- What is put in a cell: ten words, with no flags, the high half of the second. io_uring(7), struct io_uring_cqe
pub record IsCell (c : List ℕ) : Type 0 where
  pub many : length c ≡ 10
  pub no_flags : slice_index c 1 < 2 ^ 32

-- the words of a cell are these ten
abbrev pub StandsAt : List ℕ → ℕ → List ℕ → Type 0
StandsAt words cell c = (k : ℕ) → k < 10 → slice_index words (cell_index cell k) ≡ slice_index c k
