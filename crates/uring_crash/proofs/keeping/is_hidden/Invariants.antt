use Rattle.std.proofs.Common.{◌≡◌, false, take}
use Rattle.uring_crash.proofs.Common.{stands_over, list_any}
use Rattle.uring_crash.proofs.keeping.is_hidden.Given as goal

abbrev pub invariant-loop-over : goal.invariant-loop-over
invariant-loop-over l = list_any (stands_over l.k l.under) (take l.over-index l.kept) ≡ false
