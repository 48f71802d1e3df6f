use Rattle.std.proofs.Common.{take}
use Rattle.uring_litmus.proofs.Common.{Contains, Ending, IsSoOf, lines_in}
use Rattle.uring_litmus.proofs.claims.first_against.Given as goal

abbrev pub invariant-loop-at : goal.invariant-loop-at
invariant-loop-at g l = (e : Ending) → Contains (take l.at l.endings) e → IsSoOf l.claim (lines_in l.lines) e
