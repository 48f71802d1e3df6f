use Rattle.std.proofs.Common.{take}
use Rattle.uring_operations.specs.Entries.Timeouts.{IsNextOf}
use Rattle.uring_enter.proofs.time.timeout_rows.next_of.Given as goal

abbrev pub invariant-loop-i : goal.invariant-loop-i
invariant-loop-i l = IsNextOf (take l.i l.rows) l.next
