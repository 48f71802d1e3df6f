use Rattle.std.proofs.Common.{◌≡◌, ℕ, ◌<◌, length, get_or}
use Rattle.rtrb.specs.Ring.{known_free}
use Rattle.uring_workers.specs.WorkLanes.{IsLookedAt}
use Rattle.uring_workers.specs.declared.work_lanes.WorkLanes.{WorkLanes}
use Rattle.uring_workers.proofs.sends.all_show_room.Given as goal

-- the lanes so far were looked at, and each shows room
abbrev pub invariant-loop-k : goal.invariant-loop-k
invariant-loop-k l = record {
  many : length l.lanes ≡ length l.initial.lanes;
  looked : (k : ℕ) (d : WorkLanes) → k < length l.initial.lanes → IsLookedAt (get_or l.initial.lanes k d) (get_or l.lanes k d);
  room : (k : ℕ) (d : WorkLanes) → k < l.k → 0 < known_free (get_or l.lanes k d).jobs;
}
