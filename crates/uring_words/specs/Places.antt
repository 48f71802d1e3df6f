-- Places on a ring.
use Rattle.std.specs.Prelude.{ℕ, ◌%◌}
use Rattle.uring_entry.specs.IndexWords.{word_of}

-- the place of a count, in a ring of this size that begins at the word start. io_uring(7), Submitting I/O requests
abbrev pub place_of : (start size count : ℕ) → ℕ
place_of start size count = word_of start count % size
