use Rattle.std.proofs.Common.{◌≡◌, map, drop}
use Rattle.uring_volume.specs.Ways.{way, found_at}
use Rattle.uring_volume.proofs.ways.put_found.Given as goal

abbrev pub invariant-loop-way : goal.invariant-loop-way
invariant-loop-way g l =
    found_at l.past.history (map (λ s. way (map (λ p. p.now) s.rest.items) s.now.items) (drop l.way-index l.ways)) (map (λ b. b.items) l.found.items)
    ≡ found_at l.past.history (map (λ s. way (map (λ p. p.now) s.rest.items) s.now.items) l.ways) (map (λ b. b.items) l.initial.found.items)
