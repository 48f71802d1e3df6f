use Rattle.std.proofs.Common.{◌≡◌, take, drop, length}
use Rattle.uring_core.proofs.Common.{FitsApart, HasNoLessMemory, History, after_reaps}
use Rattle.uring_core.proofs.cores.Core.reap_shown.Given as goal

-- so many completions are reaped, and the other places are as they were
abbrev pub invariant-loop-count : goal.invariant-loop-count
invariant-loop-count l = record {
  setup : l.self.setup ≡ l.initial.self.setup;
  fits : (h : History) → FitsApart l.initial.self h → FitsApart l.self (after_reaps (take l.count l.into) h);
  many : length l.into ≡ length l.initial.into;
  rest : drop l.count l.into ≡ drop l.count l.initial.into;
  memory : HasNoLessMemory l.initial.self l.self;
}
