use Rattle.std.proofs.Common.{◌≡◌, ℕ, ◌≤◌, ◌++◌, length, take, vec_len, vec_capacity}
use Rattle.std.specs.List.{zip}
use Rattle.uring_machine.proofs.Common.{AreUnrefused, Fits, History, history_of}
use Rattle.uring_machine.proofs.runs.run_in.Given as goal

-- an answer a step, room for the rest, none of them for want of memory that is granted, and the history so far
abbrev pub invariant-loop-step : goal.invariant-loop-step
invariant-loop-step g l = record {
  answers : vec_len l.answers ≡ l.step-index;
  room : length l.steps ≤ vec_capacity l.answers;
  setup : l.machine.core.setup ≡ l.initial.machine.core.setup;
  unrefused : ((n : ℕ) → g.M.Memory.grants l.memory n) → (h : History) → Fits l.initial.machine h → AreUnrefused l.initial.machine.core.setup h (zip (take l.step-index l.steps) l.answers.items);
  fits : (h : History) → Fits l.initial.machine h → Fits l.machine (history_of (zip (take l.step-index l.steps) l.answers.items) ++ h);
}
