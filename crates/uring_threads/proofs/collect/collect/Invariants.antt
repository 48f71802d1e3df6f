use Rattle.uring_threads.proofs.Common.{AreTakenIn, Collects, OnlyReceives, results_received}
use Rattle.uring_threads.proofs.collect.collect.Given as goal

-- so many so far
abbrev pub invariant-loop-count : goal.invariant-loop-count
invariant-loop-count g l = record {
  taken : AreTakenIn l.kept l.workers l.place (results_received l.lanes);
  lanes : OnlyReceives l.initial.lanes l.lanes;
  collected : Collects l.initial.kept l.kept l.workers l.place l.count;
}
