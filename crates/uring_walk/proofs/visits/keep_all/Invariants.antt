use Rattle.std.proofs.Common.{List, ◌++◌, ◌∷◌, [], map, take, Contains}
use Rattle.uring_walk.specs.Amid.{AreKept}
use Rattle.uring_walk.proofs.visits.keep_all.Given as goal

abbrev pub invariant-loop-one : goal.invariant-loop-one
invariant-loop-one g l =
    (path : List g.row.W-Move.Denot) (paths : List (List g.row.W-Move.Denot)) → g.W.Moves.stands l.moves l.place path
    → ((x : g.row.W-Move.Denot) → Contains l.next x → g.W.Moves.can l.moves path x)
    → AreKept (g.W.Moves.keeps l.moves) l.initial.todo.items paths
    → AreKept (g.W.Moves.keeps l.moves) l.todo.items (paths ++ map (λ x. path ++ x ∷ []) (take l.one-index l.next))
