use Rattle.std.proofs.Common.{◌≡◌, ℕ, ◌<◌, not, ◌&&◌, false}
use Rattle.uring_linux.proofs.Common.{Requests, Shows, has_ended, is_in_some}
use Rattle.uring_linux.proofs.drains.is_alone.Given as goal

abbrev pub invariant-loop-n : goal.invariant-loop-n
invariant-loop-n l = (r : Requests) → Shows l.window r → (k : ℕ) → k < l.n
    → (not (has_ended r k) && not (is_in_some l.groups.items k)) ≡ false
