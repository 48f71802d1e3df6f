use Rattle.std.proofs.Common.{◌∙◌, ap}
use Rattle.uring_options.proofs.Common.{App, IfOk-weaker, app_of, with_subcommand}
use Rattle.uring_options.proofs.commands.with_command.Goals as goal

pub returns : goal.returns
returns c =
    IfOk-weaker c.subcommand.result _ _ (λ more added. added.shape c.in_ok-sub.ensures.local ∙ ap (λ (a : App). with_subcommand (app_of c.args.command) a.top) c.in_ok-sub.ensures.app)
    c.subcommand.ensures
