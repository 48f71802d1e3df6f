use Rattle.std.proofs.Common.{◌≡◌, drop}
use Rattle.clap.specs.Words.{app_of}
use Rattle.uring_options.specs.OptionRows.{with_rows_of}
use Rattle.clap.specs.declared.builder.command.Command.TheViews.{out-Command}
use Rattle.uring_options.proofs.commands.with_options.Given as goal

-- the rows that are left make of the command what all of them were to make of it
abbrev pub invariant-loop-row : goal.invariant-loop-row
invariant-loop-row l =
    (with_rows_of (app_of l.command) (drop l.row-index l.rows) ≡ with_rows_of (app_of l.initial.command) l.rows)
    × ((out-Command l.command).has_globals ≡ (out-Command l.initial.command).has_globals)
