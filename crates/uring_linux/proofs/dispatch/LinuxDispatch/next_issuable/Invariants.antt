use Rattle.std.proofs.Common.{◌≡◌, ℕ, ◌-◌, ◌<◌, ◌≤◌, ◌&&◌, leb, false}
use Rattle.uring_linux.proofs.Common.{LinuxRequests, ShowsRequests, is_issuable}
use Rattle.uring_linux.proofs.dispatch.LinuxDispatch.next_issuable.Given as goal

abbrev pub invariant-loop-k : goal.invariant-loop-k
invariant-loop-k l = record {
  after : l.n ≤ l.k;
  low : l.self.held.window.first ≤ l.k;
  passed : (r : LinuxRequests) → ShowsRequests l.self r → (i : ℕ) → i < l.k → (leb l.n i && is_issuable r i) ≡ false;
}

abbrev pub decreases-loop-k : goal.decreases-loop-k
decreases-loop-k l = l.end - l.k
