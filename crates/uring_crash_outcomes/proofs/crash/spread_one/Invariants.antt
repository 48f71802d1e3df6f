use Rattle.std.proofs.Common.{◌≡◌, ◌++◌, take, map}
use Rattle.uring_crash_outcomes.specs.Trials.{with_file}
use Rattle.uring_crash_outcomes.proofs.crash.spread_one.Given as goal

abbrev pub invariant-loop-image : goal.invariant-loop-image
invariant-loop-image g l =
    l.wider.items ≡ l.initial.wider.items ++ map (λ b. with_file l.crash b.items) (take l.image-index l.images)
