use Rattle.std.proofs.Common.{◌≡◌, ◌+◌, ◌*◌, ◌≤◌, ℕ, List, false, length}
use Rattle.uring_threads.proofs.Common.{Appends, HaveMade, calls_left, calls_row, now}
use Rattle.uring_threads.proofs.calls.begin_calls.Given as goal

-- calls were made, each with at most four events for a position, and so many positions are left
abbrev pub invariant-loop-rest : goal.invariant-loop-rest
invariant-loop-rest g l = record {
  made : List ℕ;
  have : HaveMade l.initial.kept l.kept made l.rest;
  row : Appends l.initial.kept l.kept (calls_row made (calls_left l.initial.kept.setup (now l.kept).submission));
  not_closed : (now l.kept).is_closed ≡ false;
  events : length l.kept.trace + 4 * l.rest ≤ length l.initial.kept.trace + 4 * l.count;
}

abbrev pub decreases-loop-rest : goal.decreases-loop-rest
decreases-loop-rest g l = l.rest
