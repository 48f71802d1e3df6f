use Rattle.std.proofs.Common.{◌≡◌, ◌<◌, ℕ, length, get_or}
use Rattle.uring_effect_points.proofs.Common.{empty_file, plain}
use Rattle.uring_effect_points.proofs.copies.copied.Given as goal

abbrev pub invariant-loop-fd : goal.invariant-loop-fd
invariant-loop-fd g l = record {
  count : length l.copy ≡ l.count;
  read : (k : ℕ) → k < l.fd → plain (get_or l.copy k empty_file) ≡ plain (get_or l.files k empty_file);
}
