use Rattle.uring_volume.specs.Events.{is_safe}
use Rattle.std.proofs.Common.{◌≡◌, false, ◌+◌, ◌≤◌, length}
use Rattle.uring_volume.specs.Choices.{issued}
use Rattle.uring_volume.specs.Folds.{IsFoldedFrom, IsUnderSafe}
use Rattle.uring_volume.specs.Writes.{Write}
use Rattle.uring_volume.proofs.volume.Volume.fold_in.Given as goal

abbrev pub invariant-loop-step : goal.invariant-loop-step
invariant-loop-step g l = record {
  folded : IsFoldedFrom l.fn.self l.self;
  under : (w : Write) → is_safe l.self.history w ≡ false → IsUnderSafe l.self.history w → ⊥;
  room : l.step + length (issued l.self.history) ≤ l.count;
}
