use Rattle.std.proofs.Common.{◌≡◌, false, map, take}
use Rattle.uring_volume.specs.Choices.{has_safe}
use Rattle.uring_volume.proofs.ways.has_safe.Given as goal

abbrev pub invariant-loop-piece : goal.invariant-loop-piece
invariant-loop-piece l =
    has_safe l.past.history (map (λ p. p.now) (take l.piece-index l.rest)) ≡ false
