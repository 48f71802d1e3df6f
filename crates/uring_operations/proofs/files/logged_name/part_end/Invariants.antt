use Rattle.std.proofs.Common.{◌≡◌, ◌≢◌, ℕ, ◌≤◌, ◌<◌, ◌-◌, get_or}
use Rattle.uring_operations.proofs.files.logged_name.part_end.Given as goal

abbrev pub invariant-loop-i : goal.invariant-loop-i
invariant-loop-i l =
    (l.end ≤ l.i)
    × ((k : ℕ) → l.end ≤ k → k < l.i → get_or l.path k 0 ≡ 47)
    × (0 < l.end → get_or l.path (l.end - 1) 0 ≢ 47)
