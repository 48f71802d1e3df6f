use Rattle.std.proofs.Common.{◌≡◌, ◌+◌, ◌≤◌, drop, length, replicate}
use Rattle.uring_threads.proofs.Common.{Appends, calls_after, calls_left, ends_of, in_call, now, taken}
use Rattle.uring_core.specs.declared.step.Step.TheVariants as step
use Rattle.uring_threads.proofs.calls.take_positions.Given as goal

-- so many positions of the call are taken, each with one event, and none ended it
abbrev pub invariant-loop-done : goal.invariant-loop-done
invariant-loop-done l = record {
  events : length l.kept.trace ≤ length l.initial.kept.trace + l.done;
  world : now l.kept ≡ in_call (now l.initial.kept) l.count l.done;
  calls : calls_after (ends_of l.initial.kept.setup (drop (taken (now l.initial.kept).submission + l.done) (now l.initial.kept).submission.published)) l.done
      ≡ calls_left l.initial.kept.setup (now l.initial.kept).submission;
  row : Appends l.initial.kept l.kept (replicate l.done step.Take);
}
