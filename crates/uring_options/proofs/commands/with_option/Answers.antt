use Rattle.std.proofs.Common.{◌∙◌, ◌||◌, ap}
use Rattle.uring_options.proofs.Common.{IfOk-weaker, app_of, with_rule}
use Rattle.std.proofs.Math.Bool.{or-false}
use Rattle.clap.specs.declared.builder.command.Command.TheViews.{out-Command}
use Rattle.uring_options.proofs.commands.with_option.Goals as goal

pub returns-clause-local : goal.returns-clause-local
returns-clause-local c = IfOk-weaker c.arg.result _ _ (λ more h. h.globals ∙ ap (λ b. (out-Command c.args.command).has_globals || b) c.option_of.ensures.local ∙ or-false _) c.arg.ensures

pub returns-clause-app : goal.returns-clause-app
returns-clause-app c = IfOk-weaker c.arg.result _ _ (λ more h. h.shape c.option_of.ensures.local ∙ ap (with_rule (app_of c.args.command)) c.option_of.ensures.rule) c.arg.ensures
