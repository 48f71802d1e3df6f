use Rattle.std.proofs.Common.{◌≡◌, ◌++◌, take, drop, map}
use Rattle.uring_operations.specs.Entries.Timeouts.{with_expiry}
use Rattle.uring_enter.proofs.time.timeout_rows.set_expiry.Given as goal

abbrev pub invariant-loop-i : goal.invariant-loop-i
invariant-loop-i l =
    l.rows ≡ map (with_expiry l.number l.expiry) (take l.i l.initial.rows) ++ drop l.i l.initial.rows
