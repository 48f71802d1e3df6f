use Rattle.std.proofs.Common.{◌≡◌, ◌≤◌, length, take}
use Rattle.uring_volume.proofs.Common.{vec_capacity, vec_len}
use Rattle.uring_volume.proofs.kept.copied_kept.Given as goal

abbrev pub invariant-loop-k : goal.invariant-loop-k
invariant-loop-k g l = record {
  kept : l.copy.items ≡ take l.k-index l.kept;
  few : vec_len l.copy ≤ l.k-index;
  room : length l.kept ≤ vec_capacity l.copy;
}
