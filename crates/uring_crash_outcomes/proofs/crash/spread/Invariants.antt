use Rattle.std.proofs.Common.{◌≡◌, take, map}
use Rattle.uring_crash_outcomes.specs.Trials.{spread_over}
use Rattle.uring_crash_outcomes.proofs.crash.spread.Given as goal

abbrev pub invariant-loop-crash : goal.invariant-loop-crash
invariant-loop-crash g l = l.wider.items ≡ spread_over (take l.crash-index l.crashes) (map (λ b. b.items) l.images)
