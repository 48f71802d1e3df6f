use Rattle.std.proofs.Common.{take}
use Rattle.uring_text.proofs.Cutting.{HasNone}
use Rattle.uring_text.proofs.tokens.first_piece.Given as goal

-- none that ends it so far
abbrev pub invariant-loop-i : goal.invariant-loop-i
invariant-loop-i l = HasNone l.end (take l.i l.bytes)
