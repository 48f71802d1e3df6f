use Rattle.uring_threads.proofs.SettledWorkers.{SoFar}
use Rattle.uring_threads.proofs.settle_work.settle_workers.Given as goal

abbrev pub invariant-loop-k : goal.invariant-loop-k
invariant-loop-k g l =
    SoFar l.initial.kept l.kept l.initial.lanes l.lanes l.initial.workers l.workers l.k
