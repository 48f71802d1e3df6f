use Rattle.std.proofs.Common.{◌≡◌, map, take}
use Rattle.uring_volume.proofs.Common.{issued}
use Rattle.uring_volume.proofs.EndOrder.{ends_of}
use Rattle.uring_volume.proofs.show.ended_pieces.Given as goal

abbrev pub invariant-loop-n : goal.invariant-loop-n
invariant-loop-n g l =
    map (λ p. p.now) l.order.items ≡ ends_of (issued l.past.history) (take l.n-index l.past.ends)
