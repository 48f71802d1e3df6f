use Rattle.std.proofs.Common.{◌≡◌, map, take}
use Rattle.uring_words.specs.Submission.Calls.{item_of, AllGoOn}
use Rattle.uring_words.specs.Submission.Ends.{app_knows}
use Rattle.uring_words.proofs.submission.writer.CallWriter.stage_front.Given as goal

abbrev pub invariant-loop-item : goal.invariant-loop-item
invariant-loop-item l = record {
  is : l.self ≡ app_knows l.fn.self (record l.fn.self.knows.app { staged = l.self.knows.app.staged });
  goes_on : AllGoOn l.self.knows.app.staged;
  staged : map item_of l.self.knows.app.staged ≡ take l.item-index l.items;
}
