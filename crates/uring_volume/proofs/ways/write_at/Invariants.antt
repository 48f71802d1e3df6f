use Rattle.std.proofs.Common.{◌≡◌, ◌+◌, ◌<◌, ◌≤◌, ℕ, [], ◌∷◌, length, get_or}
use Rattle.uring_volume.specs.Images.{byte_over}
use Rattle.uring_volume.proofs.ways.write_at.Given as goal

abbrev pub invariant-loop-j : goal.invariant-loop-j
invariant-loop-j l = record {
  same : length l.now ≡ length l.initial.now;
  done : (k : ℕ) → k < length l.now → k < l.j → get_or l.now k 0 ≡ byte_over (get_or l.initial.now k 0) (l.piece ∷ []) (l.from + k);
  todo : (k : ℕ) → l.j ≤ k → get_or l.now k 0 ≡ get_or l.initial.now k 0;
}
