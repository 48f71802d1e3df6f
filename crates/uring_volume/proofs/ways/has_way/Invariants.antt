use Rattle.std.proofs.Common.{◌≡◌, false, map, take}
use Rattle.uring_volume.proofs.Common.{list_any, same_way, way}
use Rattle.uring_volume.proofs.ways.has_way.Given as goal

abbrev pub invariant-loop-way : goal.invariant-loop-way
invariant-loop-way l =
    list_any (λ y. same_way y (way (map (λ p. p.now) l.rest) l.now)) (map (λ s. way (map (λ p. p.now) s.rest.items) s.now.items) (take l.way-index l.ways)) ≡ false
