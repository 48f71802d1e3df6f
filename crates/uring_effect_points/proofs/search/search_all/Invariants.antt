use Rattle.uring_effect_points.specs.Search.{IsSearch, seats_of}
use Rattle.uring_effect_points.proofs.search.search_all.Given as goal

abbrev pub invariant-moves : goal.invariant-moves
invariant-moves g l = IsSearch l.count l.marks (seats_of l.todo.items)
