use Rattle.std.proofs.Common.{◌≡◌, map, drop}
use Rattle.uring_volume.specs.Images.{length_over}
use Rattle.uring_volume.proofs.crash.length_left.Given as goal

abbrev pub invariant-loop-piece : goal.invariant-loop-piece
invariant-loop-piece l =
    length_over l.len (map (λ p. p.now) (drop l.piece-index l.order)) ≡ length_over l.first (map (λ p. p.now) l.order)
