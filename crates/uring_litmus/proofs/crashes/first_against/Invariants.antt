use Rattle.std.proofs.Common.{List, ℕ, take}
use Rattle.uring_litmus.proofs.Common.{Contains, lines_in, texts_of}
use Rattle.uring_litmus.specs.Crashes.{IsSoOfLine}
use Rattle.uring_litmus.proofs.crashes.first_against.Given as goal

abbrev pub invariant-loop-line : goal.invariant-loop-line
invariant-loop-line g l = (line : List ℕ) → Contains (texts_of (take l.line-index l.shown)) line
    → IsSoOfLine l.claim (lines_in l.lines) line
