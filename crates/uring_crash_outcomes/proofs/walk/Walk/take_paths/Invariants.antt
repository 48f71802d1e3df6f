use Rattle.uring_crash_outcomes.proofs.Common.{IsWalk, entries_of, paths_of}
use Rattle.uring_crash_outcomes.proofs.walk.Walk.take_paths.Given as goal

abbrev pub invariant-paths : goal.invariant-paths
invariant-paths g l = IsWalk l.unit l.setup (entries_of l.calls) (paths_of l.self.todo.items) l.self.found.items
