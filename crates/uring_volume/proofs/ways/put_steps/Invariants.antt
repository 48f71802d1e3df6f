use Rattle.std.proofs.Common.{◌≡◌, map, drop}
use Rattle.uring_volume.specs.Ways.{way, steps_of}
use Rattle.uring_volume.proofs.ways.put_steps.Given as goal

abbrev pub invariant-loop-piece : goal.invariant-loop-piece
invariant-loop-piece g l =
    steps_of l.past.history l.from (way (map (λ p. p.now) l.rest) l.now) (map (λ p. p.now) (drop l.piece-index l.rest)) (map (λ s. way (map (λ p. p.now) s.rest.items) s.now.items) l.next.items)
    ≡ steps_of l.past.history l.from (way (map (λ p. p.now) l.rest) l.now) (map (λ p. p.now) l.rest) (map (λ s. way (map (λ p. p.now) s.rest.items) s.now.items) l.initial.next.items)
