use Rattle.std.proofs.Common.{◌≡◌, map, take}
use Rattle.uring_effect_points.specs.Bare.{blank}
use Rattle.uring_effect_points.proofs.known.blanks_of.Given as goal

abbrev pub invariant-loop-event : goal.invariant-loop-event
invariant-loop-event g l = l.blanks.items ≡ map blank (take l.event-index l.events)
