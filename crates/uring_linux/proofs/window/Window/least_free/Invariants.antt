use Rattle.std.proofs.Common.{◌≡◌, ℕ, ◌<◌, not, ◌&&◌, false}
use Rattle.uring_linux.proofs.Common.{LinuxRequests, Shows, is_deferred, is_outstanding}
use Rattle.uring_linux.proofs.window.Window.least_free.Given as goal

abbrev pub invariant-loop-n : goal.invariant-loop-n
invariant-loop-n i = (l : LinuxRequests) → Shows i.self l.requests → i.drains.drains ≡ l.drains → (k : ℕ) → k < i.n
    → (is_outstanding l.requests k && not (is_deferred l k)) ≡ false
