use Rattle.std.proofs.Common.{rules, arith}
use Rattle.uring_ports.proofs.AppEndLemmas.{item_at, all_items}
use Rattle.uring_ports.proofs.app_end.check_call.Goals as goal

pub returns-then-word-size-clause-refused : goal.returns-then-word-size-clause-refused
returns-then-word-size-clause-refused c = (
  omega arith,
  c.if-items-size.false,
  λ all.
      let is = rw c.in-Bad.is at (item_at c.args.size c.args.items.now c.loop-item.item-index c.item-item.result c.loop-item-test.true c.item-item.is all) in
      absurd (omega (arith, is, c.if-word-size.true)),
)

pub returns-clause-ok : goal.returns-clause-ok
returns-clause-ok c = (search rules, c.if-items-size.false, all_items c.args.size c.args.items.now c.loop-item.item-index c.loop-item-test.false c.loop-item.invariant)
