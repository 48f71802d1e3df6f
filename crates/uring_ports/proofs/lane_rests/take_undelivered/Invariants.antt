use Rattle.std.proofs.Common.{◌≡◌, ◌+◌, ◌≤◌, ◌++◌, length, vec_capacity, vec_len}
use Rattle.rtrb.specs.Ring.{known_items}
use Rattle.uring_ports.proofs.lane_rests.take_undelivered.Given as goal

abbrev pub invariant-loop : goal.invariant-loop
invariant-loop l =
    (length (known_items l.lane) + l.counter ≡ length (known_items l.initial.lane))
    × (vec_len l.completions + length (known_items l.lane) ≤ vec_capacity l.completions)
    × (l.completions.items ++ known_items l.lane ≡ known_items l.initial.lane)
