use Rattle.std.proofs.Common.{◌≡◌, map}
use Rattle.uring_volume.specs.Ways.{fronts}
use Rattle.uring_volume.proofs.listing.fronts.Given as goal

abbrev pub invariant-loop-i : goal.invariant-loop-i
invariant-loop-i g l =
    map (λ b. b.items) l.files.items ≡ fronts l.unit l.first l.past.history l.len l.i
