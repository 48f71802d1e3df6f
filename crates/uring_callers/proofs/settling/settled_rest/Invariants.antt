use Rattle.std.proofs.Common.{◌≡◌, take}
use Rattle.uring_entry.specs.Completions.{unreaped}
use Rattle.uring_core.specs.Histories.{History, world}
use Rattle.uring_machine.specs.Machine.{Fits}
use Rattle.uring_callers.proofs.settling.settled_rest.Given as goal

-- as many were copied as the loop has come
abbrev pub invariant-loop-place : goal.invariant-loop-place
invariant-loop-place l = (h : History) → Fits l.machine h
    → l.rest.items ≡ take l.place (unreaped (world l.machine.core.setup h).completions)
