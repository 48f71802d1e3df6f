use Rattle.std.proofs.Common.{◌≡◌, ◌++◌, map, drop}
use Rattle.uring_volume.proofs.Common.{after}
use Rattle.uring_volume.proofs.order.left_after.Given as goal

abbrev pub invariant-loop-piece : goal.invariant-loop-piece
invariant-loop-piece g l =
    map (λ p. p.now) l.others.items ++ after l.past.history l.n (map (λ p. p.now) (drop l.piece-index l.rest))
    ≡ after l.past.history l.n (map (λ p. p.now) l.rest)
