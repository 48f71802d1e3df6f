use Rattle.std.proofs.Common.{◌≡◌, ◌+◌, ◌≤◌, ◌++◌, length, vec_capacity, vec_len}
use Rattle.uring_words.specs.Submission.Calls.{items_of}
use Rattle.uring_words.proofs.submission.reader.CallReader.take_known.Given as goal

abbrev pub invariant-loop : goal.invariant-loop
invariant-loop l = record {
  left : length l.self.knows.kernel.known + l.counter ≡ length l.fn.self.knows.kernel.known;
  room : vec_len l.items + length l.self.knows.kernel.known ≤ vec_capacity l.items;
  items : l.items.items ++ items_of l.self.knows.kernel.known ≡ l.fn.items.items ++ items_of l.fn.self.knows.kernel.known;
}
