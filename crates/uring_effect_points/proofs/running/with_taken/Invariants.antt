use Rattle.std.proofs.Common.{◌≡◌, take}
use Rattle.uring_effect_points.specs.Moves as moves
use Rattle.uring_effect_points.proofs.running.with_taken.Given as goal

abbrev pub invariant-loop-one : goal.invariant-loop-one
invariant-loop-one g l = l.all.items ≡ moves.with_taken (take l.one-index l.running) l.number l.outcome
