use Rattle.uring_workers.specs.WorkLanes.{OnlyReceives, results_received, results_seen}
use Rattle.uring_threads.proofs.SettledWorkers.{Drains}
use Rattle.uring_threads.proofs.collect.take_waiting.Given as goal

abbrev pub invariant-loop-taken : goal.invariant-loop-taken
invariant-loop-taken l =
    OnlyReceives l.initial.lanes l.lanes × Drains l.initial.kept l.kept (results_seen l.initial.lanes) (results_seen l.lanes) (results_received l.initial.lanes) (results_received l.lanes) l._taken
