use Rattle.std.proofs.Common.{◌≡◌, ℕ, List, ◌++◌, ◌-◌, ◌^◌}
use Rattle.std.specs.Io.KnownBytes.{Appends}
use Rattle.uring_text.proofs.streams.write_all.Given as goal

-- what was written, and what is left
abbrev pub invariant-loop-rest : goal.invariant-loop-rest
invariant-loop-rest g l = (written : List ℕ)
    × Appends (g.W.Write.contents l.fn.writer) (g.W.Write.contents l.writer) written
    × (l.bytes ≡ written ++ l.rest)

abbrev pub decreases-loop-rest : goal.decreases-loop-rest
decreases-loop-rest g l = 2 ^ 64 - 1 - l.writes.count
