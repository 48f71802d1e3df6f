use Rattle.std.proofs.Common.{take}
use Rattle.uring_outcomes.proofs.Common.{AreUnnamed, among}
use Rattle.uring_outcomes.proofs.next.are_unnamed.Given as goal

abbrev pub invariant-loop-entry : goal.invariant-loop-entry
invariant-loop-entry l = AreUnnamed (among l.names) (take l.entry-index l.entries)
