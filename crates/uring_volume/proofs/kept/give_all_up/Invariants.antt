use Rattle.std.proofs.Common.{◌≡◌, ◌++◌, map, take, drop}
use Rattle.uring_volume.specs.Past.{given_up_by}
use Rattle.uring_volume.proofs.kept.give_all_up.Given as goal

abbrev pub invariant-loop-i : goal.invariant-loop-i
invariant-loop-i l = l.kept ≡ map (given_up_by l.sync) (take l.i l.initial.kept) ++ drop l.i l.initial.kept
