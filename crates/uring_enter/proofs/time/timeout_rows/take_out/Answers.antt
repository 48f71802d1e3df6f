use Rattle.std.proofs.Common.{arith}
use Rattle.std.proofs.lemmas.List.Filters.{FiltersInPlace-more_set, FiltersInPlace-more_no}
use Rattle.uring_enter.proofs.TimeoutRows.{other_from, no_other_from}
use Rattle.uring_enter.proofs.time.timeout_rows.take_out.Goals as goal

pub loop-i-preserved : goal.loop-i-preserved
loop-i-preserved c = elim c.if-row-number.branch [
  | goal.then-row-number w ↦ rw (w.rows-is, w.kept-is) (FiltersInPlace-more_set c.loop-i.invariant (omega arith) (other_from c.args.number c.row_at-row.result w.if-row-number.true) c.row_at-row.ensures)
  | goal.else-row-number w ↦ rw (w.rows-is, w.kept-is) (FiltersInPlace-more_no c.loop-i.invariant (omega arith) (no_other_from c.args.number c.row_at-row.result w.if-row-number.false) c.row_at-row.ensures)
]
