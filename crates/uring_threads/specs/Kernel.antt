-- The dispatcher's end: its trace, and what went through its hands.
use Rattle.std.specs.Prelude.{◌≡◌, ℕ, ◌<◌, ◌≤◌, true, List, length, Option}
use Rattle.uring_entry.specs.Layout.{Cqe}
use Rattle.uring_entry.specs.Requests.{outstanding_in}
use Rattle.uring_core.specs.World.{World}
use Rattle.uring_ports.specs.Ports.{Put, Sizes}
use Rattle.uring_ports.specs.Seen.{SeenCalls}
use Rattle.uring_workers.specs.WorkLanes.{HoldJobs, HoldResults}
use Rattle.uring_threads.specs.Kept.{Kept}
use Rattle.uring_threads.specs.Turns.{AreTies}
use Rattle.uring_threads.specs.declared.intake.Intake.{Intake}
use Rattle.uring_workers.specs.declared.work_lanes.WorkLanes.{WorkLanes}

-- The trace; how the intake stands; the lanes of the workers; and of the port its pairing and sizes, all that it pulled, the calls that it has seen, all that it delivered, how many completions more there is certainly room for, how often it has looked for that room, and every dropped word that it stored, without a list if no such word lies between the ends.
pub record Kernel : Type 0 where
  pub kept : Kept
  pub intake : Intake
  pub lanes : List WorkLanes
  pub pairing : List ℕ
  pub sizes : Sizes
  pub pulled : Put
  pub saw_calls : SeenCalls
  pub reaped : List Cqe
  pub free : ℕ
  pub room_looks : Option ℕ
  pub dropped : Option (List ℕ)

-- The port has the sizes of the rings, there are 1 to 8 workers, each with a lane for 64 jobs and one for at most 64 results, and the trace has all that went through the dispatcher's hands.
pub record IsKernel (k : Kernel) : Type 0 where
  pub sq : k.sizes.sq ≡ k.kept.setup.sq
  pub cq : k.sizes.cq ≡ k.kept.setup.cq
  pub some : 0 < length k.lanes
  pub few : length k.lanes ≤ 8
  pub hold : HoldJobs k.lanes
  pub short : HoldResults k.lanes
  pub ties : AreTies k.kept k.pulled k.reaped k.intake k.lanes

-- The ring is closed, nothing is outstanding, and all that was posted is reaped.
pub record IsIdle (w : World) : Type 0 where
  pub closed : w.is_closed ≡ true
  pub none_outstanding : outstanding_in w.requests ≡ 0
  pub all_reaped : length w.completions.posted ≡ length w.completions.reaped
