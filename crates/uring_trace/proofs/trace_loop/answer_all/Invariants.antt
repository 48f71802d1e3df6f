use Rattle.std.proofs.Common.{ℕ, [], ◌-◌, ◌^◌}
use Rattle.uring_trace.proofs.Common.{Has, IsGranted, Manner}
use Rattle.uring_trace.proofs.Traces.{So}
use Rattle.uring_trace.proofs.trace_loop.answer_all.Given as goal

-- what was read and written so far is what the session took in and answered
abbrev pub invariant-loop-alloc : goal.invariant-loop-alloc
invariant-loop-alloc g l = (manner : Manner) → IsGranted manner ((n : ℕ) → g.M.Memory.grants l.fn.memory n) → Has manner l.fn.session [] []
    → So manner (g.R.Read.remaining l.fn.reader) (g.R.Read.remaining l.reader) (g.W.Write.contents l.fn.writer) (g.W.Write.contents l.writer) l.session

abbrev pub decreases-loop-alloc : goal.decreases-loop-alloc
decreases-loop-alloc g l = 2 ^ 64 - 1 - l.reads.count
