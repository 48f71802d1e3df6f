use Rattle.std.proofs.Common.{◌≡◌, ◌++◌, map, take, drop}
use Rattle.uring_volume.specs.Past.{settled}
use Rattle.uring_volume.proofs.kept.settle_all.Given as goal

abbrev pub invariant-loop-i : goal.invariant-loop-i
invariant-loop-i l = l.kept ≡ map (settled l.sync) (take l.i l.initial.kept) ++ drop l.i l.initial.kept
