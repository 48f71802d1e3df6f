use Rattle.std.proofs.Common.{◌≡◌, ◌==◌, false, map, take}
use Rattle.std.specs.List.{list_any}
use Rattle.uring_volume.proofs.order.is_there.Given as goal

abbrev pub invariant-loop-piece : goal.invariant-loop-piece
invariant-loop-piece l = list_any (λ w. w.number == l.n) (map (λ p. p.now) (take l.piece-index l.rest)) ≡ false
