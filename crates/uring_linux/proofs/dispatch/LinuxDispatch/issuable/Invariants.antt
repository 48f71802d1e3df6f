use Rattle.std.proofs.Common.{◌≡◌, ◌-◌, ◌≤◌}
use Rattle.uring_linux.proofs.Common.{LinuxRequests, ShowsRequests, count_below, is_issuable}
use Rattle.uring_linux.proofs.dispatch.LinuxDispatch.issuable.Given as goal

abbrev pub invariant-loop-k : goal.invariant-loop-k
invariant-loop-k l = record {
  low : l.self.held.window.first ≤ l.k;
  high : (r : LinuxRequests) → ShowsRequests l.self r → l.k ≤ l.end;
  counted : (r : LinuxRequests) → ShowsRequests l.self r → l.total ≡ count_below (is_issuable r) l.k;
  within : l.total ≤ l.k;
}

abbrev pub decreases-loop-k : goal.decreases-loop-k
decreases-loop-k l = l.end - l.k
