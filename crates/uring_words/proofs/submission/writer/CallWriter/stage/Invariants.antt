use Rattle.std.proofs.Common.{◌≡◌, take}
use Rattle.uring_words.specs.Sides.{with_app}
use Rattle.uring_words.proofs.submission.writer.CallWriter.stage.Given as goal

abbrev pub invariant-loop-k : goal.invariant-loop-k
invariant-loop-k l = record {
  table : l.seat.table_id ≡ l.initial.seat.table_id;
  words : l.seat.me ≡ with_app l.initial.seat.me (record l.initial.seat.me.0.app { entry = take l.k l.entry });
}
