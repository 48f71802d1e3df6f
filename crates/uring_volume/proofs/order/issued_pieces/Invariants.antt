use Rattle.std.proofs.Common.{◌≡◌, ◌≤◌, length, map, take}
use Rattle.uring_volume.proofs.Common.{vec_capacity, vec_len}
use Rattle.uring_volume.proofs.order.issued_pieces.Given as goal

abbrev pub invariant-loop-k : goal.invariant-loop-k
invariant-loop-k g l = record {
  pieces : map (λ p. p.now) l.pieces.items ≡ map (λ k. k.piece) (take l.k-index l.kept);
  few : vec_len l.pieces ≤ l.k-index;
  room : length l.kept ≤ vec_capacity l.pieces;
}
