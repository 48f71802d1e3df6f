use Rattle.std.proofs.Common.{◌≡◌, drop}
use Rattle.clap.specs.Words.{app_of}
use Rattle.uring_options.specs.OptionRows.{with_command_rows}
use Rattle.uring_options.proofs.commands.with_commands.Given as goal

-- the rows that are left make of the command what all of them were to make of it
abbrev pub invariant-loop-row : goal.invariant-loop-row
invariant-loop-row l =
    with_command_rows (app_of l.command) (drop l.row-index l.rows) ≡ with_command_rows (app_of l.initial.command) l.rows
