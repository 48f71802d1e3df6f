use Rattle.std.proofs.Common.{◌≡◌, map, drop}
use Rattle.uring_volume.proofs.Common.{filter, is_needed, length_over}
use Rattle.uring_volume.proofs.listing.least_length.Given as goal

abbrev pub invariant-loop-piece : goal.invariant-loop-piece
invariant-loop-piece l =
    length_over l.len (filter (λ m. is_needed l.past.history (map (λ p. p.now) l.pieces) m) (map (λ p. p.now) (drop l.piece-index l.pieces)))
    ≡ length_over l.first (filter (λ m. is_needed l.past.history (map (λ p. p.now) l.pieces) m) (map (λ p. p.now) l.pieces))
