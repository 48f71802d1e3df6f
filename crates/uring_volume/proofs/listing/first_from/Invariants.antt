use Rattle.std.proofs.Common.{◌<◌, ◌≤◌, ◌+◌, max, length, take}
use Rattle.uring_volume.specs.Images.{IsIn}
use Rattle.uring_volume.specs.declared.kept.Kept.{Kept}
use Rattle.uring_volume.proofs.listing.first_from.Given as goal

abbrev pub invariant-loop-k : goal.invariant-loop-k
invariant-loop-k l = record {
  from : l.from ≤ l.at;
  none : (k : Kept) → IsIn k (take l.k-index l.kept) → l.from < k.piece.off + length k.piece.bytes
      → l.at ≤ max k.piece.off l.from;
}
