use Rattle.std.proofs.Common.{◌≡◌, ◌+◌, ℕ, map}
use Rattle.uring_volume.specs.Ways.{way, found_by, contents_of}
use Rattle.uring_volume.specs.Past.{AreWaysIssued}
use Rattle.uring_volume.proofs.ways.contents.Given as goal

abbrev pub invariant-loop-step : goal.invariant-loop-step
invariant-loop-step g l = record {
  issued : AreWaysIssued l.past.history (map (λ s. way (map (λ p. p.now) s.rest.items) s.now.items) l.ways.items);
  found : (n : ℕ) → l.step + n ≡ l.steps
      → found_by n l.past.history l.from (map (λ s. way (map (λ p. p.now) s.rest.items) s.now.items) l.ways.items) (map (λ b. b.items) l.found.items)
      ≡ contents_of l.past.history l.from (map (λ p. p.now) l.fn.on.items) l.fn.bytes.items;
}
