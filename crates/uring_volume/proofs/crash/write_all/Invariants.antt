use Rattle.std.proofs.Common.{◌≡◌, ◌<◌, ◌≤◌, ℕ, map, drop, get_or}
use Rattle.uring_volume.specs.Images.{byte_over}
use Rattle.uring_volume.proofs.crash.write_all.Given as goal

abbrev pub invariant-loop-piece : goal.invariant-loop-piece
invariant-loop-piece l = record {
  within : (k : ℕ) → l.from ≤ k → k < l.to
      → byte_over (get_or l.now k 0) (map (λ p. p.now) (drop l.piece-index l.order)) k
      ≡ byte_over (get_or l.initial.now k 0) (map (λ p. p.now) l.order) k;
  before : (k : ℕ) → k < l.from → get_or l.now k 0 ≡ get_or l.initial.now k 0;
  after : (k : ℕ) → l.to ≤ k → get_or l.now k 0 ≡ get_or l.initial.now k 0;
}
