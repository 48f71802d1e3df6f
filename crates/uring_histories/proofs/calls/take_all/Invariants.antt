use Rattle.uring_histories.proofs.Common.{HasMade, History, IsRecorded, Setup, take_steps}
use Rattle.uring_histories.proofs.calls.take_all.Given as goal

abbrev pub invariant-loop-taken : goal.invariant-loop-taken
invariant-loop-taken l = (g : Setup) (h : History) → IsRecorded g l.fn.recording h
    → HasMade g l.recording h (take_steps l._taken)
