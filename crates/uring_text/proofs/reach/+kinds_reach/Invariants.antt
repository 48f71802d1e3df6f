use Rattle.std.proofs.Common.{length}
use Rattle.uring_text.proofs.reach.+kinds_reach.Given as goal

abbrev pub decreases-kinds_reach : goal.decreases-kinds_reach
decreases-kinds_reach l = length l.kinds.now
