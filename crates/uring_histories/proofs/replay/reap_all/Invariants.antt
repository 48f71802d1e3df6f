use Rattle.std.proofs.Common.{List}
use Rattle.uring_histories.proofs.Common.{Cqe, IsEnded, Published, Setup}
use Rattle.uring_histories.proofs.replay.reap_all.Given as goal

abbrev pub invariant-loop-turn : goal.invariant-loop-turn
invariant-loop-turn l = (g : Setup) (calls : List (List Published)) (posted : List Cqe)
    → IsEnded g l.fn.recording calls posted → IsEnded g l.recording calls posted
