use Rattle.std.proofs.Common.{set, ap, ◌∙◌, arith}
use Rattle.std.proofs.lemmas.List.Edits.{map_over_more}
use Rattle.uring_operations.specs.Entries.Timeouts.{with_expiry}
use Rattle.uring_enter.proofs.time.timeout_rows.set_expiry.Goals as goal

pub loop-i-preserved : goal.loop-i-preserved
loop-i-preserved c =
    ap (λ v. set c.loop-i.rows c.loop-i.i v) c.with_expiry.ensures
    ∙ map_over_more (with_expiry c.args.number c.args.expiry) c.args.rows.now c.loop-i.rows c.loop-i.i c.row_at-row.result (omega arith) c.loop-i.invariant c.row_at-row.ensures
