use Rattle.uring_crash_machine.proofs.FoldedLogs.{FoldedUpTo}
use Rattle.uring_crash_machine.proofs.note.fold_all.Given as goal

abbrev pub invariant-loop-place : goal.invariant-loop-place
invariant-loop-place g l = FoldedUpTo l.place l.initial.logs l.logs
