use Rattle.std.proofs.Common.{◌≡◌, ◌++◌, map, take}
use Rattle.uring_effect_points.specs.Search.{seat_of, seats_of, took_at}
use Rattle.uring_effect_points.proofs.search.push_others.Given as goal

abbrev pub invariant-loop-taker : goal.invariant-loop-taker
invariant-loop-taker g l =
    seats_of l.todo.items ≡ seats_of l.initial.todo.items ++ map (took_at (seat_of l.state)) (take l.taker-index l.takers)
