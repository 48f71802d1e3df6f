use Rattle.std.proofs.Common.{arith}
use Rattle.uring_enter.proofs.TimeoutOrder.{next_more}
use Rattle.uring_enter.proofs.time.timeout_rows.next_of.Goals as goal

pub loop-i-preserved : goal.loop-i-preserved
loop-i-preserved c =
    rw (c.nearer.ensures) (next_more c.args.rows.now c.loop-i.i c.row_at-row.result c.loop-i.next (omega arith) c.row_at-row.ensures c.loop-i.invariant)
