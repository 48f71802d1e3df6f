use Rattle.std.proofs.Common.{length}
use Rattle.uring_text.proofs.parts.Parts.+of.Given as goal

abbrev pub decreases-of : goal.decreases-of
decreases-of l = length l.kinds.now
