use Rattle.std.proofs.Common.{◌≡◌, take}
use Rattle.uring_reconstruct.specs.Filling.{completions_in}
use Rattle.uring_reconstruct.proofs.seen.completions.Given as goal

abbrev pub invariant-loop-event : goal.invariant-loop-event
invariant-loop-event g l = l.told.items ≡ completions_in (take l.event-index l.seen)
