use Rattle.std.proofs.Common.{◌≡◌, ◌∷◌, [], map, drop}
use Rattle.uring_volume.proofs.Common.{fewest, length_over, lengths_by}
use Rattle.uring_volume.proofs.listing.lengths.Given as goal

abbrev pub invariant-loop-piece : goal.invariant-loop-piece
invariant-loop-piece g l =
    lengths_by l.past.history (map (λ p. p.now) l.pieces) l.first (map (λ p. p.now) (drop l.piece-index l.pieces)) l.lengths.items
    ≡ lengths_by l.past.history (map (λ p. p.now) l.pieces) l.first (map (λ p. p.now) l.pieces) (length_over l.first (fewest l.past.history (map (λ p. p.now) l.pieces)) ∷ [])
