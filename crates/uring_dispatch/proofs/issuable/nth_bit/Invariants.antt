use Rattle.std.proofs.Common.{◌≡◌, ◌+◌, ◌==◌}
use Rattle.uring_dispatch.proofs.Common.{bit_at, count_below}
use Rattle.uring_dispatch.proofs.issuable.nth_bit.Given as goal

abbrev pub invariant-loop-i : goal.invariant-loop-i
invariant-loop-i l = l.left + count_below (λ i. bit_at l.block i == 1) l.i ≡ l.k
