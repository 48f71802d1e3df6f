use Rattle.std.proofs.Common.{◌≡◌, take}
use Rattle.uring_play.specs.Totals.{dropped_last}
use Rattle.uring_play.proofs.totals.dropped_last.Given as goal

abbrev pub invariant-loop-place : goal.invariant-loop-place
invariant-loop-place l = l.dropped ≡ dropped_last (take l.place l.trace.items)
