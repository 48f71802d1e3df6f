use Rattle.std.proofs.Common.{ℕ, List, [], ◌-◌, ◌^◌}
use Rattle.std.specs.Io.KnownBytes.{Consumes}
use Rattle.uring_play_text.specs.Readings.{Has}
use Rattle.uring_play_text.proofs.reading.read_all.Given as goal

-- what was read so far is what was taken in
abbrev pub invariant-loop-chunk : goal.invariant-loop-chunk
invariant-loop-chunk g l = (size : ℕ) → Has size l.fn.reading []
    → (bytes : List ℕ)
    × Consumes (g.R.Read.remaining l.fn.reader) (g.R.Read.remaining l.reader) bytes
    × Has size l.reading bytes

abbrev pub decreases-loop-chunk : goal.decreases-loop-chunk
decreases-loop-chunk g l = 2 ^ 64 - 1 - l.reads.count
