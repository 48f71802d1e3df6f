use Rattle.std.proofs.Common.{◌≡◌}
use Rattle.uring_core.specs.Core.{FitsApart}
use Rattle.uring_callers.proofs.Common.{HasRun, History, NoneRuns, world}
use Rattle.uring_callers.proofs.simulator.simulate.Given as goal

-- a request was ended each time
abbrev pub invariant-loop : goal.invariant-loop
invariant-loop l = record {
  setup : l.core.setup ≡ l.initial.core.setup;
  ended : (h : History) → FitsApart l.initial.core h → NoneRuns (world l.initial.core.setup h) → HasRun l.core h l.counter;
}
