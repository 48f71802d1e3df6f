use Rattle.std.proofs.Common.{◌≡◌}
use Rattle.uring_core.proofs.Common.{FitsApart, HasNoLessMemory, History, after_takes}
use Rattle.uring_core.proofs.cores.Core.take_all.Given as goal

-- so many positions are taken
abbrev pub invariant-loop : goal.invariant-loop
invariant-loop l = record {
  setup : l.self.setup ≡ l.initial.self.setup;
  fits : (h : History) → FitsApart l.initial.self h → FitsApart l.self (after_takes l.initial.self.setup l.counter h);
  memory : HasNoLessMemory l.initial.self l.self;
}
