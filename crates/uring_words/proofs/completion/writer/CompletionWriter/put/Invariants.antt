use Rattle.std.proofs.Common.{◌≡◌, take}
use Rattle.uring_words.specs.Sides.{with_kernel}
use Rattle.uring_words.proofs.completion.writer.CompletionWriter.put.Given as goal

abbrev pub invariant-loop-k : goal.invariant-loop-k
invariant-loop-k l = record {
  table : l.seat.table_id ≡ l.initial.seat.table_id;
  words : l.seat.me ≡ with_kernel l.initial.seat.me (record l.initial.seat.me.0.kernel { cell = take l.k l.word-items });
}
