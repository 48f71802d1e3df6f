use Rattle.std.proofs.Common.{◌≡◌, ◌≤◌, length, map, take}
use Rattle.uring_volume.proofs.Common.{filter, is_on, vec_capacity, vec_len}
use Rattle.uring_volume.proofs.crash.pieces_on.Given as goal

abbrev pub invariant-loop-k : goal.invariant-loop-k
invariant-loop-k g l = record {
  pieces : map (λ p. p.now) l.on.items ≡ filter (is_on l.unit l.i) (map (λ k. k.piece) (take l.k-index l.kept));
  few : vec_len l.on ≤ l.k-index;
  room : length l.kept ≤ vec_capacity l.on;
}
