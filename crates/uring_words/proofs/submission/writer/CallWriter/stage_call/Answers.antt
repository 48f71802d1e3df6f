use Rattle.uring_words.proofs.Copying.{front_items, last_item}
use Rattle.uring_words.proofs.submission.writer.CallWriter.stage_call.Goals as goal

pub stage_front-requires-clause-items : goal.stage_front-requires-clause-items
stage_front-requires-clause-items c = front_items c.args.self.now.knows.app.size c.args.items.now c.in-Some.front.now c.in-Some.last.now c.in-Some.ensures.cases.0 c.requires.items

pub stage_item-requires-clause-item : goal.stage_item-requires-clause-item
stage_item-requires-clause-item c = rw c.stage_front.ensures.is (last_item c.args.self.now.knows.app.size c.args.items.now c.in-Some.front.now c.in-Some.last.now c.in-Some.ensures.cases.0 c.requires.items)
