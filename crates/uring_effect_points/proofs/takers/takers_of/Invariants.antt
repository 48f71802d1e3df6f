use Rattle.std.proofs.Common.{◌≡◌, take}
use Rattle.uring_effect_points.proofs.Adding.{SoFar}
use Rattle.uring_effect_points.proofs.takers.takers_of.Given as goal

abbrev pub invariant-loop-one : goal.invariant-loop-one
invariant-loop-one g l = record {
  same : l.files ≡ l.initial.files;
  so_far : SoFar l.initial.files l.running l.left l.awaited (take l.one-index l.running) l.takers.items;
}
