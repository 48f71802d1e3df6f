-- Index words.
use Rattle.std.specs.Prelude.{◌≡◌, ℕ, ◌+◌, ◌%◌, ◌^◌, ◌<◌, ◌≤◌}

-- The word that stands for a count, on a ring that begins at the word start: heads and tails run freely, and wrap at 32 bits. io_uring(7), Submitting I/O requests; the start is our own rule
abbrev pub word_of : ℕ → ℕ → ℕ
word_of start count = (start + count) % 2 ^ 32

-- Counts less than 2^32 apart have one word only if they are equal.
abbrev pub WordTellsCount : Type 0
WordTellsCount =
    (start a b : ℕ) → word_of start a ≡ word_of start b → a ≤ b → b < a + 2 ^ 32 → a ≡ b
