use Rattle.std.proofs.Common.{◌≡◌, ◌+◌, ◌≤◌, ◌++◌, length, vec_capacity, vec_len}
use Rattle.rtrb.specs.Ring.{known_items}
use Rattle.uring_ports.specs.Messages.{items_of}
use Rattle.uring_ports.proofs.lane_rests.take_unsent.Given as goal

abbrev pub invariant-loop : goal.invariant-loop
invariant-loop l =
    (length (known_items l.lane) + l.counter ≡ length (known_items l.initial.lane))
    × (vec_len l.items + length (known_items l.lane) ≤ vec_capacity l.items)
    × (l.items.items ++ items_of (known_items l.lane) ≡ items_of (known_items l.initial.lane))
