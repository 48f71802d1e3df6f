use Rattle.std.proofs.Common.{◌≡◌, ◌+◌, ◌-◌, ◌≤◌, List, ◌++◌, length, vec_capacity, vec_len}
use Rattle.rtrb.specs.Ring.{received, known_items, SameConsumer}
use Rattle.uring_ports.specs.Messages.{items_before, owed}
use Rattle.uring_ports.specs.declared.message.Message.{Message}
use Rattle.uring_ports.proofs.call_lane.pull_rest.Given as goal

abbrev pub invariant-loop : goal.invariant-loop
invariant-loop l =
    SameConsumer l.fn.lane l.lane
    × (vec_capacity l.items ≡ vec_capacity l.fn.items)
    × (vec_len l.items ≡ vec_len l.fn.items + l.counter)
    × (l.left ≤ length (known_items l.lane) + l.counter)
    × (owed (received l.lane) + l.counter ≡ l.left)
    × ((before : List Message) → received l.fn.lane ≡ before ++ items_before l.left l.fn.items.items → received l.lane ≡ before ++ items_before (l.left - l.counter) l.items.items)
