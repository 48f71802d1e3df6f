use Rattle.uring_reconstruct.specs.Parts.{paths_of, IsSearch}
use Rattle.uring_reconstruct.proofs.search.search_all.Given as goal

abbrev pub invariant-paths : goal.invariant-paths
invariant-paths g l = IsSearch l.setup l.seen (paths_of l.todo.items) l.reach.events.items l.reach.place
