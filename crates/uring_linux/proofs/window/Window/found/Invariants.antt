use Rattle.std.proofs.Common.{◌≡◌, ℕ, ◌<◌, false}
use Rattle.uring_linux.proofs.Common.{Requests, Shows, addr_of, entry_of, is_found}
use Rattle.uring_linux.proofs.window.Window.found.Given as goal

abbrev pub invariant-loop-m : goal.invariant-loop-m
invariant-loop-m l = (r : Requests) → Shows l.self r → l.user_data ≡ addr_of (entry_of r l.n) → (k : ℕ) → k < l.m
    → is_found r l.n k ≡ false
