use Rattle.std.proofs.Common.{arith}
use Rattle.uring_workers.proofs.FreshWorkers.{none_opened}
use Rattle.uring_workers.proofs.work_lanes.open_all_in.Goals as goal

pub loop-gate-init : goal.loop-gate-init
loop-gate-init g c = record {
  many = omega (arith, c.new-lanes.ensures.len, c.new-lanes.result.ok.0);
  opened = rw (c.new-lanes.ensures.items, c.new-workers.ensures.items) (none_opened c.args.files);
}
