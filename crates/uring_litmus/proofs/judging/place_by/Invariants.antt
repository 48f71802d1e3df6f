use Rattle.std.proofs.Common.{take}
use Rattle.uring_litmus.proofs.Common.{Contains, texts_of}
use Rattle.uring_litmus.proofs.judging.place_by.Given as goal

abbrev pub invariant-loop-place : goal.invariant-loop-place
invariant-loop-place l = Contains (texts_of (take l.place l.each)) l.line → ⊥
