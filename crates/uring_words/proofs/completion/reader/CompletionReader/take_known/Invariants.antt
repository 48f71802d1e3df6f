use Rattle.std.proofs.Common.{◌≡◌, ◌+◌, ◌≤◌, ◌++◌, length, vec_capacity, vec_len}
use Rattle.uring_words.specs.Completion.Ends.{completions_of}
use Rattle.uring_words.proofs.completion.reader.CompletionReader.take_known.Given as goal

abbrev pub invariant-loop : goal.invariant-loop
invariant-loop l = record {
  left : length l.self.knows.app.known + l.counter ≡ length l.fn.self.knows.app.known;
  room : vec_len l.completions + length l.self.knows.app.known ≤ vec_capacity l.completions;
  items : l.completions.items ++ completions_of l.self.knows.app.known ≡ l.fn.completions.items ++ completions_of l.fn.self.knows.app.known;
}
