use Rattle.std.proofs.Common.{◌≡◌, [], ◌∷◌, ◌++◌, map, take}
use Rattle.uring_reconstruct.specs.Parts.{paths_of}
use Rattle.uring_reconstruct.proofs.search.push_longer.Given as goal

abbrev pub invariant-loop-event : goal.invariant-loop-event
invariant-loop-event g l = paths_of l.todo.items ≡ paths_of l.fn.todo.items ++ map (λ x. l.path ++ x ∷ []) (take l.event-index l.next)
