use Rattle.std.proofs.Common.{ℕ, ◌≤◌}
use Rattle.uring_operations.specs.Files.Mapped.{Differs}
use Rattle.uring_operations.proofs.files.mapped.first_change.Given as goal

abbrev pub invariant-loop-i : goal.invariant-loop-i
invariant-loop-i l = (k : ℕ) → Differs l.before l.now k → l.i ≤ k
