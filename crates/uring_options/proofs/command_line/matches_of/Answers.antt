use Rattle.std.proofs.Common.{◌≡◌, true, subst}
use Rattle.clap.specs.Words.{App, FailsBy, fault_of, is_simple_and_free}
use Rattle.clap.specs.Walk.{texts}
use Rattle.uring_options.proofs.CommandOptions.{uring_is_free}
use Rattle.uring_options.proofs.command_line.matches_of.Goals as goal

pub returns-clause-kinds : goal.returns-clause-kinds
returns-clause-kinds c =
    subst (λ (a : App). is_simple_and_free a ≡ true → FailsBy (fault_of a (texts c.args.args.now)) c.try_get_matches_from.result) c.in_ok-uring_command.ensures c.try_get_matches_from.ensures.kinds uring_is_free
