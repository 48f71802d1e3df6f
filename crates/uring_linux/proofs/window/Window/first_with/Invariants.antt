use Rattle.std.proofs.Common.{◌≡◌, ℕ, ◌<◌, ◌≤◌, ◌&&◌, leb, false}
use Rattle.uring_linux.proofs.Common.{Requests, Shows, end_of, said}
use Rattle.uring_linux.proofs.window.Window.first_with.Given as goal

abbrev pub invariant-loop-n : goal.invariant-loop-n
invariant-loop-n l = (r : Requests) → Shows l.self r → l.self.first ≤ l.from → l.end ≤ end_of l.self
    → (k : ℕ) → k < l.n → (leb l.from k && said l.test r k) ≡ false
