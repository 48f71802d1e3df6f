use Rattle.std.proofs.Common.{◌≡◌, ℕ, ◌+◌, ◌%◌, ◌^◌, ◌<◌, get_or}
use Rattle.uring_rings.proofs.sq.Sq.is_busy.Given as goal

-- no position passed so far names the slot
abbrev pub invariant-loop-k : goal.invariant-loop-k
invariant-loop-k l = (j : ℕ) → j < l.k
    → get_or l.self-inside.array.items ((l.self-inside.seen_head.0 + j) % 2 ^ 32 % l.self-inside.size) 0
    ≡ l.slot
    → ⊥
