use Rattle.std.proofs.Common.{◌≡◌, take}
use Rattle.uring_effect_points.specs.Bare as bare
use Rattle.uring_effect_points.proofs.known.bytes_told.Given as goal

abbrev pub invariant-loop-event : goal.invariant-loop-event
invariant-loop-event g l = l.told.items ≡ bare.bytes_told (take l.event-index l.events)
