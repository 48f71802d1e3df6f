use Rattle.std.proofs.Common.{take}
use Rattle.uring_ports.specs.Items.{AreItems}
use Rattle.uring_ports.proofs.app_end.check_call.Given as goal

abbrev pub invariant-loop-item : goal.invariant-loop-item
invariant-loop-item l = AreItems l.size (take l.item-index l.items)
