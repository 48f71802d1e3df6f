use Rattle.std.proofs.Common.{◌≡◌, ◌≢◌, ℕ, ◌≤◌, ◌<◌, ◌-◌, get_or}
use Rattle.uring_operations.proofs.files.logged_name.part_begin.Given as goal

abbrev pub invariant-loop-i : goal.invariant-loop-i
invariant-loop-i l =
    (l.begin ≤ l.end)
    × (l.begin ≤ l.i)
    × ((k : ℕ) → l.begin ≤ k → k < l.i → k < l.end → get_or l.path k 0 ≢ 47)
    × (0 < l.begin → get_or l.path (l.begin - 1) 0 ≡ 47)
