use Rattle.std.proofs.Common.{◌≡◌, ◌++◌, map, drop}
use Rattle.uring_volume.specs.Ways.{joined}
use Rattle.uring_volume.proofs.listing.joined.Given as goal

abbrev pub invariant-loop-front : goal.invariant-loop-front
invariant-loop-front g l =
    map (λ b. b.items) l.files.items ++ joined (map (λ b. b.items) (drop l.front-index l.fronts)) (map (λ b. b.items) l.ends)
    ≡ joined (map (λ b. b.items) l.fronts) (map (λ b. b.items) l.ends)
