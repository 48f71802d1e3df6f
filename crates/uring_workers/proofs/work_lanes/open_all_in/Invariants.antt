use Rattle.std.proofs.Common.{◌≡◌, ◌+◌, length}
use Rattle.std.specs.Vec.Iter.{into_iter_len}
use Rattle.uring_workers.specs.Opened.{AreOpened}
use Rattle.uring_workers.proofs.work_lanes.open_all_in.Given as goal

-- the gates that were taken have their workers
abbrev pub invariant-loop-gate : goal.invariant-loop-gate
invariant-loop-gate g l = record {
  many : length l.lanes.items + into_iter_len l.gate-iterator ≡ into_iter_len l.initial.gate-iterator;
  opened : AreOpened l.files l.lanes.items l.workers.items;
}
