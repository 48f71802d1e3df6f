use Rattle.std.proofs.Common.{arith}
use Rattle.uring_walk.proofs.Keeping.{kept_more, kept_all, is_there}
use Rattle.uring_walk.proofs.visits.keep_all.Goals as goal

pub loop-one-preserved : goal.loop-one-preserved
loop-one-preserved g c = λ path paths stands can kept.
    let low = c.loop-one-test.true in
    let more = c.in_ok-keep.ensures.kept path stands (can c.one-item.result (is_there c.args.next.now c.loop-one.one-index c.one-item.result (omega (arith, low)) c.one-item.is)) in
    kept_more (g.W.Moves.keeps c.args.moves.now) c.loop-one.todo.items _ paths path c.args.next.now c.loop-one.one-index c.one-item.result more.0 (omega (arith, low)) c.one-item.is (c.loop-one.invariant path paths stands can kept) more.1 more.2

pub returns-clause-kept : goal.returns-clause-kept
returns-clause-kept g c = λ path paths stands can kept.
    kept_all (g.W.Moves.keeps c.args.moves.now) c.loop-one.todo.items paths path c.args.next.now c.loop-one.one-index (omega arith) (c.loop-one.invariant path paths stands can kept)
