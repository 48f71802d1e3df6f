use Rattle.std.proofs.Common.{rules}
use Rattle.uring_litmus.proofs.CallEntries.{entry_more}
use Rattle.uring_litmus.proofs.calls.entries_of_call.Goals as goal

pub loop-item-preserved : goal.loop-item-preserved
loop-item-preserved g c =
    entry_more c.args.items.now c.loop-item.item-index c.item-item.result _ _ (search rules) c.item-item.is c.loop-item.invariant (search rules)
