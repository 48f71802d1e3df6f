use Rattle.std.proofs.Common.{◌-◌, ◌<◌, ◌≤◌, length, take, drop}
use Rattle.uring_volume.specs.Images.{IsIn}
use Rattle.uring_volume.specs.declared.kept.Kept.{Kept}
use Rattle.uring_volume.proofs.kept.place.Given as goal

abbrev pub invariant-loop-low : goal.invariant-loop-low
invariant-loop-low l = record {
  order : l.low ≤ l.high;
  within : l.high ≤ length l.kept;
  below : (k : Kept) → IsIn k (take l.low l.kept) → k.piece.number < l.n;
  above : (k : Kept) → IsIn k (drop l.high l.kept) → l.n ≤ k.piece.number;
}

abbrev pub decreases-loop-low : goal.decreases-loop-low
decreases-loop-low l = l.high - l.low
