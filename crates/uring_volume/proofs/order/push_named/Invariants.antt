use Rattle.std.proofs.Common.{◌≡◌, ◌++◌, map, drop}
use Rattle.uring_volume.proofs.Common.{named}
use Rattle.uring_volume.proofs.order.push_named.Given as goal

abbrev pub invariant-loop-piece : goal.invariant-loop-piece
invariant-loop-piece g l =
    map (λ p. p.now) l.order.items ++ named l.n (map (λ p. p.now) (drop l.piece-index l.pieces))
    ≡ map (λ p. p.now) l.initial.order.items ++ named l.n (map (λ p. p.now) l.pieces)
