use Rattle.std.proofs.Common.{take}
use Rattle.uring_crash_outcomes.specs.Trials.{AreShown}
use Rattle.uring_crash_outcomes.proofs.crash.crashes_of.Given as goal

abbrev pub invariant-loop-log : goal.invariant-loop-log
invariant-loop-log g l = AreShown l.posted (take l.log-index l.logs) l.crashes.items
