use Rattle.std.proofs.Common.{◌≡◌, ◌≤◌, length, map, take}
use Rattle.uring_volume.proofs.Common.{is_needed, vec_capacity, vec_len}
use Rattle.uring_volume.proofs.listing.needed_flags.Given as goal

abbrev pub invariant-loop-piece : goal.invariant-loop-piece
invariant-loop-piece g l = record {
  flags : l.flags.items ≡ map (λ m. is_needed l.past.history (map (λ p. p.now) l.pieces) m) (map (λ p. p.now) (take l.piece-index l.pieces));
  few : vec_len l.flags ≤ l.piece-index;
  room : length l.pieces ≤ vec_capacity l.flags;
}
