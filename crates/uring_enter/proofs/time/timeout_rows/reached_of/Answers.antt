use Rattle.std.proofs.Common.{◌∙◌, sym, arith}
use Rattle.uring_enter.proofs.TimeoutRows.{first_reached, none_reached_more}
use Rattle.uring_enter.proofs.time.timeout_rows.reached_of.Goals as goal

pub returns-then-is_reached_by : goal.returns-then-is_reached_by
returns-then-is_reached_by c =
    first_reached c.args.rows.now c.args.count c.loop-i.i c.args.posted c.row_at-row.result (omega arith) (omega arith)
    c.row_at-row.ensures c.loop-i.invariant (sym c.is_reached_by.ensures ∙ c.if-is_reached_by.true)

pub loop-i-preserved : goal.loop-i-preserved
loop-i-preserved c =
    none_reached_more c.args.rows.now c.loop-i.i c.args.posted c.row_at-row.result (omega arith)
    c.row_at-row.ensures c.loop-i.invariant (sym c.is_reached_by.ensures ∙ c.if-is_reached_by.false)
