use Rattle.std.proofs.Common.{◌≡◌, take}
use Rattle.uring_machine.proofs.Common.{Fits, history_of}
use Rattle.uring_machine.proofs.checks.first_wrong.Given as goal

-- the answers so far were followed
abbrev pub invariant-loop-place : goal.invariant-loop-place
invariant-loop-place g l = record {
  setup : l.machine.core.setup ≡ l.initial.machine.core.setup;
  fits : Fits l.machine (history_of (take l.place l.events));
}
