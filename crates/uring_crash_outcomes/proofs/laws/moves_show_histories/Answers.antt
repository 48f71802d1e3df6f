use Rattle.uring_crash_outcomes.proofs.CrashLaws.{moves_show_histories}
use Rattle.uring_crash_outcomes.proofs.laws.moves_show_histories.Goals as goal

pub returns : goal.returns
returns c = moves_show_histories
