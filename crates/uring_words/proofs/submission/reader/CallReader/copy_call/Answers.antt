use Rattle.std.proofs.Common.{arith, rules}
use Rattle.uring_words.proofs.Copying.{in_call_more, in_call_last, in_call_close, call_ends}
use Rattle.uring_words.proofs.submission.reader.CallReader.copy_call.Goals as goal

pub loop-preserved : goal.loop-preserved
loop-preserved c =
    let inv = c.loop.invariant in
    record {
      part = rw c.push_reserved.ensures.items (in_call_more c.args.self.now c.loop.self c.copy_one.new.self c.loop.counter c.loop.items.items c.copy_one.result c.in-More.item inv.part c.copy_one.ensures c.in-More.is);
      room = search rules;
    }

pub returns-in-Last-clause-copies : goal.returns-in-Last-clause-copies
returns-in-Last-clause-copies c =
    (in_call_last c.args.self.now c.loop.self c.copy_one.new.self c.loop.counter c.loop.items.items c.copy_one.result c.in-Last.item c.requires.rests c.requires.open (omega (arith, c.waiting-end.ensures.few)) c.loop.invariant.part c.copy_one.ensures c.in-Last.is).0

pub returns-in-Last-clause-pulled : goal.returns-in-Last-clause-pulled
returns-in-Last-clause-pulled c = rw c.push_reserved-in-Last.ensures.items
    (in_call_last c.args.self.now c.loop.self c.copy_one.new.self c.loop.counter c.loop.items.items c.copy_one.result c.in-Last.item c.requires.rests c.requires.open (omega (arith, c.waiting-end.ensures.few)) c.loop.invariant.part c.copy_one.ensures c.in-Last.is).1

pub returns-in-Close-clause-copies : goal.returns-in-Close-clause-copies
returns-in-Close-clause-copies c =
    (in_call_close c.args.self.now c.loop.self c.copy_one.new.self c.loop.counter c.loop.items.items c.copy_one.result c.requires.rests c.requires.open c.loop.invariant.part c.copy_one.ensures c.in-Close.is).0

pub returns-in-Close-clause-pulled : goal.returns-in-Close-clause-pulled
returns-in-Close-clause-pulled c =
    (in_call_close c.args.self.now c.loop.self c.copy_one.new.self c.loop.counter c.loop.items.items c.copy_one.result c.requires.rests c.requires.open c.loop.invariant.part c.copy_one.ensures c.in-Close.is).1

pub unreachable-requires : goal.unreachable-requires
unreachable-requires c =
    let d = c.args.self.now.knows.kernel in
    call_ends c.args.self.now c.loop.self c.loop.counter c.loop.items.items c.requires.rests c.requires.open c.requires.some
    (omega (arith, c.loop-test.false, c.loop.auto.counter-end, c.waiting-end.ensures.many)) c.loop.invariant.part
