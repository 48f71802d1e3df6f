use Rattle.std.proofs.Common.{◌≡◌, take}
use Rattle.uring_machine.proofs.Common.{FitsApart, history_of}
use Rattle.uring_machine.proofs.checks.first_wrong_apart.Given as goal

-- the answers so far were followed
abbrev pub invariant-loop-place : goal.invariant-loop-place
invariant-loop-place g l = record {
  setup : l.core.setup ≡ l.initial.core.setup;
  fits : FitsApart l.core (history_of (take l.place l.events));
}
