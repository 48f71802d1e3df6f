use Rattle.std.proofs.Common.{◌≡◌, take}
use Rattle.uring_enter.proofs.Common.{Contains, Timeout}
use Rattle.uring_enter.proofs.time.timeout_rows.row_of.Given as goal

abbrev pub invariant-loop-i : goal.invariant-loop-i
invariant-loop-i l = (t : Timeout) → Contains (take l.i l.rows) t → t.number ≡ l.number → ⊥
