use Rattle.std.proofs.Common.{◌≡◌, ◌≤◌, false, length, map, drop}
use Rattle.uring_volume.specs.Choices.{has_safe}
use Rattle.uring_volume.proofs.order.count_up_to_safe.Given as goal

abbrev pub invariant-loop-i : goal.invariant-loop-i
invariant-loop-i l = record {
  within : l.i ≤ length l.rest;
  none : has_safe l.past.history (drop l.i (map (λ p. p.now) l.rest)) ≡ false;
}
