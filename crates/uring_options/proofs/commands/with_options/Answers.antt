use Rattle.std.proofs.Common.{◌∙◌, ◌<◌, length, sym, rules}
use Rattle.std.proofs.lemmas.List.{at_drop_more, drop_all}
use Rattle.uring_options.proofs.Common.{app_of, with_rows_of}
use Rattle.uring_options.proofs.commands.with_options.Goals as goal

pub loop-row-preserved : goal.loop-row-preserved
loop-row-preserved c =
    let lt : c.loop-row.row-index < length c.args.rows.now = search rules in
    (rw c.in_ok-command.ensures.app (sym (at_drop_more (with_rows_of (app_of c.loop-row.command)) c.args.rows.now c.loop-row.row-index _ lt) ∙ c.loop-row.invariant.0), c.in_ok-command.ensures.local ∙ c.loop-row.invariant.1)

pub returns-clause-app : goal.returns-clause-app
returns-clause-app c = rw (drop_all c.loop-row.row-index c.args.rows.now c.loop-row-test.false) at c.loop-row.invariant.0
