use Rattle.std.proofs.Common.{◌≡◌, map, drop}
use Rattle.uring_volume.proofs.Common.{pointwise, same_write}
use Rattle.uring_volume.proofs.ways.are_same_writes.Given as goal

abbrev pub invariant-loop-i : goal.invariant-loop-i
invariant-loop-i l =
    pointwise same_write (map (λ p. p.now) (drop l.i l.one)) (map (λ p. p.now) (drop l.i l.other))
    ≡ pointwise same_write (map (λ p. p.now) l.one) (map (λ p. p.now) l.other)
