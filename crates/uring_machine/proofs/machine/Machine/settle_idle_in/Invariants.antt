use Rattle.std.proofs.Common.{◌≡◌, ℕ, ◌≤◌}
use Rattle.uring_machine.proofs.Common.{Fits, HasSettled, History, max_len}
use Rattle.uring_machine.proofs.machine.Machine.settle_idle_in.Given as goal

-- a request was settled each time
abbrev pub invariant-loop : goal.invariant-loop
invariant-loop g l = record {
  setup : l.self.core.setup ≡ l.initial.self.core.setup;
  settled : (h : History) → Fits l.initial.self h → HasSettled ((n : ℕ) × g.M.Memory.grants l.memory n × (max_len ≤ n)) l.initial.self l.self h l.steps l.counter;
}
