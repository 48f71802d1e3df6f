use Rattle.std.proofs.Common.{◌≡◌, ◌+◌, drop}
use Rattle.uring_text.specs.Flaws.{column_after}
use Rattle.uring_text.proofs.flaw.column_after.Given as goal

-- the column of the rest, as many bytes further on, is that of the whole
abbrev pub invariant-loop-i : goal.invariant-loop-i
invariant-loop-i l = column_after (drop l.i l.line) l.left + l.i ≡ column_after l.line l.fn.blanks
