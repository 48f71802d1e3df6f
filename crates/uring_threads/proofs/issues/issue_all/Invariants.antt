use Rattle.std.proofs.Common.{◌≤◌, ◌^◌, length}
use Rattle.uring_core.specs.declared.step.Step.TheVariants as step
use Rattle.uring_threads.proofs.Common.{AreSameLanes, HaveCarried, Repeats}
use Rattle.uring_threads.proofs.issues.issue_all.Given as goal

-- so many requests were issued, each with an event of its own
abbrev pub invariant-loop-count : goal.invariant-loop-count
invariant-loop-count g l = record {
  events : l.count ≤ length l.kept.trace;
  limit : l.count ≤ 2 ^ 63;
  carried : HaveCarried l.kept l.lanes;
  lanes : AreSameLanes l.initial.lanes l.lanes;
  repeats : Repeats l.initial.kept l.kept step.Issue l.count;
}
