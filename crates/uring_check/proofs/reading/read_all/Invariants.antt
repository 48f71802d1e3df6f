use Rattle.std.proofs.Common.{Bool, [], ◌-◌, ◌^◌}
use Rattle.uring_check.proofs.Common.{Has, Rules}
use Rattle.uring_check.proofs.Readings.{So}
use Rattle.uring_check.proofs.reading.read_all.Given as goal

-- what was read so far is what was taken in
abbrev pub invariant-loop-chunk : goal.invariant-loop-chunk
invariant-loop-chunk g l = (setup : Rules) (all : Bool) → Has setup all l.fn.reading []
    → So setup all (g.R.Read.remaining l.fn.reader) (g.R.Read.remaining l.reader) l.reading

abbrev pub decreases-loop-chunk : goal.decreases-loop-chunk
decreases-loop-chunk g l = 2 ^ 64 - 1 - l.reads.count
