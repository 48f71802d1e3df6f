use Rattle.std.proofs.Common.{◌≡◌, ◌||◌, map, drop}
use Rattle.uring_volume.proofs.Common.{filter, goes_with, is_needed, length_over}
use Rattle.uring_volume.proofs.listing.least_length_with.Given as goal

abbrev pub invariant-loop-i : goal.invariant-loop-i
invariant-loop-i l =
    length_over l.len (filter (λ m. goes_with l.past.history l.n m || is_needed l.past.history (map (λ p. p.now) l.pieces) m) (map (λ p. p.now) (drop l.i l.pieces)))
    ≡ length_over l.first (filter (λ m. goes_with l.past.history l.n m || is_needed l.past.history (map (λ p. p.now) l.pieces) m) (map (λ p. p.now) l.pieces))
