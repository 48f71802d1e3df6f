use Rattle.uring_walk.specs.Amid.{IsAt}
use Rattle.uring_walk.proofs.visits.take_paths.Given as goal

abbrev pub invariant-paths : goal.invariant-paths
invariant-paths g l =
    IsAt (g.W.Moves.due l.moves) (g.W.Moves.can l.moves) (g.W.Moves.sought l.moves) (g.W.Moves.stands l.moves) (g.W.Moves.keeps l.moves) (g.W.Moves.noted l.moves) l.here l.todo.items l.notes l.most l.done
