use Rattle.uring_crash_outcomes.proofs.CrashLaws.{histories_show_moves}
use Rattle.uring_crash_outcomes.proofs.laws.histories_show_moves.Goals as goal

pub returns : goal.returns
returns c = histories_show_moves
