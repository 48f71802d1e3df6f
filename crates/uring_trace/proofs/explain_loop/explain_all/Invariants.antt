use Rattle.std.proofs.Common.{ℕ, [], ◌-◌, ◌^◌}
use Rattle.uring_trace.proofs.Common.{HasToldBy, IsGrantedTo, Telling}
use Rattle.uring_trace.proofs.ExplainStreams.{Far}
use Rattle.uring_trace.proofs.explain_loop.explain_all.Given as goal

-- what was read and written so far is what the explainer took in, told and noted
abbrev pub invariant-loop-alloc : goal.invariant-loop-alloc
invariant-loop-alloc g l =
    (telling : Telling) → IsGrantedTo telling ((n : ℕ) → g.M.Memory.grants l.fn.memory n)
    → HasToldBy telling l.fn.explainer [] [] []
    → Far telling (g.R.Read.remaining l.fn.reader) (g.R.Read.remaining l.reader) (g.W.Write.contents l.fn.writer) (g.W.Write.contents l.writer) (g.E.Write.contents l.fn.errors) (g.E.Write.contents l.errors) l.explainer

abbrev pub decreases-loop-alloc : goal.decreases-loop-alloc
decreases-loop-alloc g l = 2 ^ 64 - 1 - l.reads.count
