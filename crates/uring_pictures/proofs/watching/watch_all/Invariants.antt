use Rattle.std.proofs.Common.{[], ◌-◌, ◌^◌}
use Rattle.uring_pictures.proofs.Common.{HasTold, Setup}
use Rattle.uring_pictures.proofs.Streams.{FarWith}
use Rattle.uring_pictures.proofs.watching.watch_all.Given as goal

-- what was read so far is what the explainer and the watcher took in, and what was noted was written
abbrev pub invariant-loop-alloc : goal.invariant-loop-alloc
invariant-loop-alloc g l =
    (setup : Setup) → HasTold setup l.fn.explainer [] [] []
    → FarWith (λ bytes. (first : _) → g.W.Watcher.follows first l.fn.watcher [] → g.W.Watcher.follows first l.watcher bytes) setup (g.R.Read.remaining l.fn.reader) (g.R.Read.remaining l.reader) (g.E.Write.contents l.fn.errors) (g.E.Write.contents l.errors) l.explainer

abbrev pub decreases-loop-alloc : goal.decreases-loop-alloc
decreases-loop-alloc g l = 2 ^ 64 - 1 - l.reads.count
