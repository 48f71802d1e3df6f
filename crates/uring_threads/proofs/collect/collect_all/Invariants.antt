use Rattle.std.proofs.Common.{length}
use Rattle.uring_threads.proofs.Collecting.{CollectsBefore, SeenBefore}
use Rattle.uring_threads.proofs.collect.collect_all.Given as goal

-- at most 64 of each worker so far
abbrev pub invariant-loop-place : goal.invariant-loop-place
invariant-loop-place g l = record {
  collected : CollectsBefore l.initial.lanes l.initial.kept l.place l.count l.kept l.lanes;
  seen : SeenBefore (length l.initial.lanes) l.place l.initial.kept l.kept l.lanes;
}
