use Rattle.std.proofs.Common.{◌≡◌, false, map, take}
use Rattle.uring_volume.specs.Choices.{waits_for_one}
use Rattle.uring_volume.proofs.order.waits.Given as goal

abbrev pub invariant-loop-piece : goal.invariant-loop-piece
invariant-loop-piece l =
    waits_for_one l.past.history (map (λ p. p.now) (take l.piece-index l.rest)) l.n ≡ false
