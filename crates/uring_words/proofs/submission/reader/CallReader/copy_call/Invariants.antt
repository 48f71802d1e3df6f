use Rattle.std.proofs.Common.{◌≡◌, vec_capacity}
use Rattle.uring_words.specs.Submission.Ends.{InCall}
use Rattle.uring_words.proofs.submission.reader.CallReader.copy_call.Given as goal

abbrev pub invariant-loop : goal.invariant-loop
invariant-loop l = record {
  part : InCall l.fn.self l.self l.counter l.items.items;
  room : vec_capacity l.items ≡ vec_capacity l.fn.items;
}
