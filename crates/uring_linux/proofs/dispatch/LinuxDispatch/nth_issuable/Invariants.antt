use Rattle.std.proofs.Common.{◌≡◌, ◌+◌, ◌-◌, ◌≤◌}
use Rattle.uring_linux.proofs.Common.{LinuxRequests, ShowsRequests, count_below, is_issuable}
use Rattle.uring_linux.proofs.dispatch.LinuxDispatch.nth_issuable.Given as goal

abbrev pub invariant-loop-n : goal.invariant-loop-n
invariant-loop-n l = record {
  low : l.self.held.window.first ≤ l.n;
  high : (r : LinuxRequests) → ShowsRequests l.self r → l.n ≤ l.end;
  counted : (r : LinuxRequests) → ShowsRequests l.self r → l.left + count_below (is_issuable r) l.n ≡ l.k;
}

abbrev pub decreases-loop-n : goal.decreases-loop-n
decreases-loop-n l = l.end - l.n
