use Rattle.std.proofs.Common.{◌≡◌, ◌≤◌, length, take}
use Rattle.uring_text.specs.Completions.{trimmed}
use Rattle.uring_text.proofs.completion_text.without_zeros.Given as goal

-- what is cut off doesn't count
abbrev pub invariant-loop-used : goal.invariant-loop-used
invariant-loop-used l =
    (l.used ≤ length l.bytes) × (trimmed (take l.used l.bytes) ≡ trimmed l.bytes)

abbrev pub decreases-loop-used : goal.decreases-loop-used
decreases-loop-used l = l.used
