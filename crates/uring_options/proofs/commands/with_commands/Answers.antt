use Rattle.std.proofs.Common.{◌∙◌, ◌<◌, length, sym, rules}
use Rattle.std.proofs.lemmas.List.{at_drop_more, drop_all}
use Rattle.uring_options.proofs.Common.{app_of, with_command_rows}
use Rattle.uring_options.proofs.commands.with_commands.Goals as goal

pub loop-row-preserved : goal.loop-row-preserved
loop-row-preserved c =
    let lt : c.loop-row.row-index < length c.args.rows.now = search rules in
    rw c.in_ok-command.ensures (sym (at_drop_more (with_command_rows (app_of c.loop-row.command)) c.args.rows.now c.loop-row.row-index _ lt) ∙ c.loop-row.invariant)

pub returns : goal.returns
returns c = rw (drop_all c.loop-row.row-index c.args.rows.now c.loop-row-test.false) at c.loop-row.invariant
