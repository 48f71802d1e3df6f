use Rattle.std.proofs.Common.{◌≡◌, take, false}
use Rattle.uring_enter.proofs.Common.{Contains, Timeout, is_reached_by}
use Rattle.uring_enter.proofs.time.timeout_rows.reached_of.Given as goal

abbrev pub invariant-loop-i : goal.invariant-loop-i
invariant-loop-i l = (t : Timeout) → Contains (take l.i l.rows) t → is_reached_by l.posted t ≡ false
