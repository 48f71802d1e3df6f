use Rattle.std.proofs.Common.{◌≡◌, false, map, take}
use Rattle.uring_volume.proofs.Common.{goes_with, is_safe, list_any, ◌&&◌}
use Rattle.uring_volume.proofs.listing.is_needed.Given as goal

abbrev pub invariant-loop-safe : goal.invariant-loop-safe
invariant-loop-safe l =
    list_any (λ s. is_safe l.past.history s && goes_with l.past.history s.number l.piece) (map (λ p. p.now) (take l.safe-index l.pieces)) ≡ false
