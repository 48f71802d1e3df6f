use Rattle.std.proofs.Common.{◌≡◌, [], ◌∷◌, ◌++◌, map, take}
use Rattle.uring_outcomes.specs.Walks.{paths_of}
use Rattle.uring_outcomes.proofs.paths.push_longer.Given as goal

abbrev pub invariant-loop-next : goal.invariant-loop-next
invariant-loop-next g l = paths_of l.todo.items ≡ paths_of l.fn.todo.items ++ map (λ x. l.path ++ x ∷ []) (take l.next-index l.moves)
