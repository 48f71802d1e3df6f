use Rattle.std.proofs.Common.{◌∙◌, [], ◌∷◌, ap}
use Rattle.uring_options.proofs.Common.{App, Checks, Crashes, Explains, Fills, IfOk-weaker, Lists, Plays, Traces, app_of, with_commands_of}
use Rattle.uring_options.proofs.CommandRows.{Stand, rows_stand}
use Rattle.uring_options.proofs.commands.uring_command.Goals as goal

pub returns : goal.returns
returns c =
    let rows = c.trace.result ∷ c.explain.result ∷ c.check.result ∷ c.play.result ∷ c.crash.result ∷ c.outcomes.result ∷ c.fill.result ∷ [] in
    let runs = Traces ∷ Explains ∷ Checks ∷ Plays ∷ Crashes ∷ Lists ∷ Fills ∷ [] in
    let stand : Stand rows runs = (c.trace.ensures, (c.explain.ensures, (c.check.ensures, (c.play.ensures, (c.crash.ensures, (c.outcomes.ensures, (c.fill.ensures, tt))))))) in
    let all = rows_stand rows runs stand (app_of c.bare_command.result) ∙ ap (λ (a : App). with_commands_of a runs) c.bare_command.ensures in
    IfOk-weaker c.with_commands.result _ _ (λ more made. made ∙ all) c.with_commands.ensures
