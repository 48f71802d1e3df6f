use Rattle.std.proofs.Common.{◌≡◌, ◌+◌, ◌*◌}
use Rattle.uring_dispatch.proofs.Common.{can_go, count_below}
use Rattle.uring_dispatch.proofs.outstanding.Outstanding.nth.Given as goal

abbrev pub invariant-loop-place : goal.invariant-loop-place
invariant-loop-place l = l.left + count_below (can_go l.self.waiting l.limit) (64 * l.place) ≡ l.k
