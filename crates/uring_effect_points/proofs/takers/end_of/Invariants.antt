use Rattle.std.proofs.Common.{◌≡◌, drop}
use Rattle.uring_effect_points.specs.Moves.{end_in}
use Rattle.uring_effect_points.proofs.takers.end_of.Given as goal

abbrev pub invariant-loop-mark : goal.invariant-loop-mark
invariant-loop-mark l = end_in l.left l.number ≡ end_in (drop l.mark-index l.left) l.number
