use Rattle.std.proofs.Common.{◌≡◌, [], map, drop}
use Rattle.uring_volume.specs.Ways.{way, next_ways}
use Rattle.uring_volume.proofs.ways.next_ways.Given as goal

abbrev pub invariant-loop-way : goal.invariant-loop-way
invariant-loop-way g l =
    next_ways l.past.history l.from (map (λ s. way (map (λ p. p.now) s.rest.items) s.now.items) (drop l.way-index l.ways)) (map (λ s. way (map (λ p. p.now) s.rest.items) s.now.items) l.next.items)
    ≡ next_ways l.past.history l.from (map (λ s. way (map (λ p. p.now) s.rest.items) s.now.items) l.ways) []
