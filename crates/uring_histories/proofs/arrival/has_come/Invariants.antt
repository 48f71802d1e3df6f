use Rattle.std.proofs.Common.{◌≡◌, ◌<◌, ℕ, []}
use Rattle.uring_histories.proofs.Common.{Fits, History, slice_get, world}
use Rattle.uring_histories.proofs.arrival.has_come.Given as goal

abbrev pub invariant-loop-place : goal.invariant-loop-place
invariant-loop-place l = (h : History) → Fits l.machine h → (world l.machine.core.setup h).completions.reaped ≡ []
    → (k : ℕ) → k < l.place
    → slice_get (world l.machine.core.setup h).completions.posted k ≡ slice_get l.posted k
