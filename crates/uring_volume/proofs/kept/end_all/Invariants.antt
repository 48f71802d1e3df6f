use Rattle.std.proofs.Common.{◌≡◌, ◌++◌, map, take, drop}
use Rattle.uring_volume.specs.Past.{ended_at}
use Rattle.uring_volume.proofs.kept.end_all.Given as goal

abbrev pub invariant-loop-i : goal.invariant-loop-i
invariant-loop-i l = l.kept ≡ map (ended_at l.n l.next l.has_failed) (take l.i l.initial.kept) ++ drop l.i l.initial.kept
