use Rattle.std.proofs.Common.{◌+◌, map, drop, sym, ap, ◌∙◌}
use Rattle.uring_volume.proofs.Common.{fewest_with, length_over, lengths_by, nat_eq, put_by, false≢true, drop_all}
use Rattle.uring_volume.proofs.Seeking.{dropped}
use Rattle.uring_volume.proofs.listing.lengths.Goals as goal

pub loop-piece-preserved : goal.loop-piece-preserved
loop-piece-preserved g c =
    ap (λ ns. lengths_by c.args.past.now.history (map (λ p. p.now) c.args.pieces.now) c.args.first (map (λ p. p.now) (drop (c.loop-piece.piece-index + 1) c.args.pieces.now)) ns)
    (c.in_ok-put_length.ensures.put ∙ ap (put_by nat_eq c.loop-piece.lengths.items) (c.least_length_with-len.ensures ∙ ap (λ n. length_over c.args.first (fewest_with c.args.past.now.history (map (λ p. p.now) c.args.pieces.now) n)) c.number.ensures))
    ∙ sym (ap (λ ws. lengths_by c.args.past.now.history (map (λ p. p.now) c.args.pieces.now) c.args.first ws c.loop-piece.lengths.items) (dropped (λ p. p.now) c.args.pieces.now c.loop-piece.piece-index c.piece-item.result c.loop-piece-test.true c.piece-item.is))
    ∙ c.loop-piece.invariant

pub returns-in_err-push-clause-granted : goal.returns-in_err-push-clause-granted
returns-in_err-push-clause-granted g c = λ all. absurd (false≢true (c.in_err-push.ensures.granted all))

pub returns-in_err-put_length-clause-granted : goal.returns-in_err-put_length-clause-granted
returns-in_err-put_length-clause-granted g c = λ all. absurd (false≢true (c.in_err-put_length.ensures.granted all))

pub returns-clause-lengths : goal.returns-clause-lengths
returns-clause-lengths g c = rw (drop_all c.loop-piece.piece-index c.args.pieces.now c.loop-piece-test.false) at c.loop-piece.invariant
