use Rattle.std.proofs.Common.{◌≡◌, ◌+◌, ◌-◌, ◌≤◌, ◌++◌, length, take}
use Rattle.rtrb.specs.Ring.{sent, known_free, SameProducer}
use Rattle.uring_ports.specs.Messages.{items_before}
use Rattle.uring_ports.proofs.call_lane.put_call.Given as goal

abbrev pub invariant-loop-index : goal.invariant-loop-index
invariant-loop-index l =
    SameProducer l.fn.lane l.lane
    × (length l.items ≤ known_free l.lane + l.index)
    × (sent l.lane ≡ sent l.fn.lane ++ items_before (length l.items - l.index) (take l.index l.items))
