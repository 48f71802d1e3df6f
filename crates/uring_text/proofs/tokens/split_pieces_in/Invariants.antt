use Rattle.std.proofs.Common.{◌≡◌, ◌++◌}
use Rattle.uring_text.proofs.Cutting.{words, left_pieces, left_size, pieces_of}
use Rattle.uring_text.proofs.tokens.split_pieces_in.Given as goal

-- the pieces so far, and those of what is left, are all
abbrev pub invariant-loop-left : goal.invariant-loop-left
invariant-loop-left g l = words l.pieces.items ++ left_pieces l.end l.left ≡ pieces_of l.end l.bytes

abbrev pub decreases-loop-left : goal.decreases-loop-left
decreases-loop-left g l = left_size l.left
