use Rattle.std.proofs.Common.{◌≡◌, take, false}
use Rattle.uring_linux.specs.Drains.{is_in_some}
use Rattle.uring_linux.proofs.drains.is_in_some.Given as goal

abbrev pub invariant-loop-at : goal.invariant-loop-at
invariant-loop-at l = is_in_some (take l.at l.groups.items) l.n ≡ false
