use Rattle.std.proofs.Common.{[], ℕ, ℤ, ◌-◌, ◌^◌}
use Rattle.uring_crash.proofs.Common.{Follows, Setup}
use Rattle.uring_crash.proofs.Runs.{Far}
use Rattle.uring_crash.proofs.crash_run.read_all.Given as goal

-- what was read so far is what the follower took in
abbrev pub invariant-loop-reads : goal.invariant-loop-reads
invariant-loop-reads g l =
    (unit : ℕ) (setup : Setup) (fd : ℤ) (most : ℕ) → Follows unit setup fd most l.fn.follower []
    → Far unit setup fd most (g.R.Read.remaining l.fn.reader) (g.R.Read.remaining l.reader) l.follower

abbrev pub decreases-loop-reads : goal.decreases-loop-reads
decreases-loop-reads g l = 2 ^ 64 - 1 - l.reads.count
