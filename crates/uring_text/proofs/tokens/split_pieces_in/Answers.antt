use Rattle.std.proofs.Common.{◌++◌, ◌∷◌, [], ap, ◌∙◌, rules}
use Rattle.uring_text.proofs.Cutting.{words, cut_more, cut_less, cut_all, pieces_of}
use Rattle.uring_text.proofs.tokens.split_pieces_in.Goals as goal

pub loop-left-init : goal.loop-left-init
loop-left-init g c = ap (λ t. words t ++ pieces_of c.args.end c.args.bytes.now) c.new-pieces.ensures.items

pub loop-left-smaller : goal.loop-left-smaller
loop-left-smaller g c = cut_less _ _ c.first_piece.result.1 c.in-Some.is c.first_piece.ensures.shorter

pub loop-left-preserved : goal.loop-left-preserved
loop-left-preserved g c =
    cut_more c.args.end (pieces_of c.args.end c.args.bytes.now) c.loop-left.pieces.items c.push_reserved.new.self.items c.first_piece.result.0 c.in-Some.rest c.loop-left.left c.first_piece.result.1 c.in-Some.is
    (c.push_reserved.ensures.items ∙ ap (λ t. t ++ c.first_piece.result.0 ∷ []) c.reserve.ensures.items) c.first_piece.ensures.some c.first_piece.ensures.none c.loop-left.invariant

pub returns-clause-pieces : goal.returns-clause-pieces
returns-clause-pieces g c = cut_all c.args.end _ _ c.loop-left.left (search rules) c.loop-left.invariant
