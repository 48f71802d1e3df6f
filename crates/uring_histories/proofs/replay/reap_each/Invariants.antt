use Rattle.std.proofs.Common.{List}
use Rattle.uring_histories.proofs.Common.{Cqe, IsEnded, Published, Setup}
use Rattle.uring_histories.proofs.replay.reap_each.Given as goal

abbrev pub invariant-loop-reaped : goal.invariant-loop-reaped
invariant-loop-reaped l = (g : Setup) (calls : List (List Published)) (posted : List Cqe)
    → IsEnded g l.fn.recording calls posted → IsEnded g l.recording calls posted
