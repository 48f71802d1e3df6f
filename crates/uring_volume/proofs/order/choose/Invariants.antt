use Rattle.std.proofs.Common.{◌≡◌, ◌++◌, map, drop}
use Rattle.uring_volume.specs.Choices.{chosen}
use Rattle.uring_volume.specs.Past.{AreIssued}
use Rattle.uring_volume.proofs.order.choose.Given as goal

abbrev pub invariant-loop-n : goal.invariant-loop-n
invariant-loop-n g l = record {
  issued : AreIssued l.past.history (map (λ p. p.now) l.rest.items);
  left : map (λ p. p.now) l.order.items ++ chosen l.past.history (map (λ p. p.now) l.rest.items) (drop l.n-index l.choice)
      ≡ chosen l.past.history (map (λ p. p.now) l.fn.pieces.items) l.choice;
}
