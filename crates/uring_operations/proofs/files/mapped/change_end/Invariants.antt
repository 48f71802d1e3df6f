use Rattle.std.proofs.Common.{ℕ, ◌≤◌, ◌<◌, ◌-◌}
use Rattle.uring_operations.specs.Files.Mapped.{Differs}
use Rattle.uring_operations.proofs.files.mapped.change_end.Given as goal

abbrev pub invariant-loop-i : goal.invariant-loop-i
invariant-loop-i l =
    (l.end ≤ l.i)
    × ((k : ℕ) → Differs l.before l.now k → k < l.i → k < l.end)
    × (0 < l.end → Differs l.before l.now (l.end - 1))
