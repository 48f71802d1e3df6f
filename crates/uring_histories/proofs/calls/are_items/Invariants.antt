use Rattle.std.proofs.Common.{take}
use Rattle.uring_ports.specs.Items.{AreItems}
use Rattle.uring_histories.proofs.calls.are_items.Given as goal

abbrev pub invariant-loop-item : goal.invariant-loop-item
invariant-loop-item l = AreItems l.size (take l.item-index l.items)
