use Rattle.std.proofs.Common.{◌≡◌, ◌-◌, ◌^◌, ◌≤◌, min, length}
use Rattle.uring_volume.specs.Ways.{fronts}
use Rattle.uring_volume.proofs.listing.count_fronts.Given as goal

abbrev pub invariant-loop-i : goal.invariant-loop-i
invariant-loop-i g l = record {
  count : l.count ≡ min (length (fronts l.unit l.first l.past.history l.len l.i)) (2 ^ 64 - 1);
  within : l.i ≤ l.units;
}

abbrev pub decreases-loop-i : goal.decreases-loop-i
decreases-loop-i g l = l.units - l.i
