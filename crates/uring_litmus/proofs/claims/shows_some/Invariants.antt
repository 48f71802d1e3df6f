use Rattle.std.proofs.Common.{take}
use Rattle.uring_litmus.proofs.Common.{StandsSome, lines_in, texts_of}
use Rattle.uring_litmus.proofs.claims.shows_some.Given as goal

abbrev pub invariant-loop-line : goal.invariant-loop-line
invariant-loop-line l = StandsSome (lines_in (take l.line-index l.lines)) (texts_of l.parts) → ⊥
