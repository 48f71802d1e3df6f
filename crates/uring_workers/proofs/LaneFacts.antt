-- What is so of a worker's lanes by what their ends know. Stable: other crates may import `lane_full` and `looked_results`.
use Rattle.std.proofs.Common.{◌≡◌, ◌≤◌, length, arith}
use Rattle.rtrb.specs.Ring.{known_free, producer_capacity, SameConsumer}
use Rattle.uring_workers.specs.WorkLanes.{IsLookedAt, jobs_sent}
use Rattle.uring_workers.specs.declared.work_lanes.WorkLanes.{WorkLanes}

-- a lane for jobs that shows no room has carried what it holds
pub lane_full : (l : WorkLanes) → producer_capacity l.jobs ≡ 64 → known_free l.jobs ≡ 0
    → 64 ≤ length (jobs_sent l)
lane_full l hold none = omega (arith, hold, none, l.jobs.counts.0)

-- lanes that were looked at are the same for results
pub looked_results : (old new : WorkLanes) → IsLookedAt old new
    → SameConsumer old.results new.results
looked_results old new looked = grind arith
