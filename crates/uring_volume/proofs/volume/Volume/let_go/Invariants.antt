use Rattle.std.proofs.Common.{◌+◌, ◌≤◌, length}
use Rattle.uring_volume.specs.Choices.{issued}
use Rattle.uring_volume.specs.Folds.{IsFoldedFrom}
use Rattle.uring_volume.proofs.volume.Volume.let_go.Given as goal

abbrev pub invariant-loop-step : goal.invariant-loop-step
invariant-loop-step l = record {
  folded : IsFoldedFrom l.fn.self l.self;
  room : l.step + length (issued l.self.history) ≤ l.count;
}
