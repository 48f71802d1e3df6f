-- The rows of commands as the commands that they stand for.
use Rattle.std.proofs.Common.{◌≡◌, ◌∙◌, List, [], ◌∷◌, refl, ap}
use Rattle.uring_options.proofs.Common.{App, Run, app_for, app_of_row, with_command_rows, with_commands_of, with_subcommand}
use Rattle.uring_options.specs.declared.commands.CommandRow.{CommandRow}

-- each row is to clap the command at its place
abbrev pub Stand : List CommandRow → List Run → Type 0
Stand [] [] = Unit {0}
Stand (row ∷ rows) (run ∷ runs) = (app_of_row row ≡ app_for run) × Stand rows runs
Stand _ _ = ⊥

pub rows_stand : (rows : List CommandRow) (runs : List Run) → Stand rows runs → (app : App)
    → with_command_rows app rows ≡ with_commands_of app runs
rows_stand [] [] stand app = refl
rows_stand (row ∷ rows) (run ∷ runs) stand app =
    rows_stand rows runs stand.1 (with_subcommand app (app_of_row row).top)
    ∙ ap (λ (a : App). with_commands_of (with_subcommand app a.top) runs) stand.0
rows_stand _ _ stand app = absurd stand
