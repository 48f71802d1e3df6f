use Rattle.std.proofs.Common.{◌==◌, ◌+◌, ◌++◌, map, drop, refl, sym, ap, ◌∙◌}
use Rattle.uring_volume.proofs.Common.{false≢true, append-nil, drop_all, eq-eqb, ne_eqb, named}
use Rattle.uring_volume.proofs.Seeking.{kept_one, left_one}
use Rattle.uring_volume.proofs.Taking.{push_map}
use Rattle.uring_volume.proofs.order.push_named.Goals as goal
use Rattle.uring_volume.proofs.order.push_named.Goals.{then-number-n+in_ok-push, else-number-n}

pub returns-in_err-push-clause-granted : goal.returns-in_err-push-clause-granted
returns-in_err-push-clause-granted g c = λ all. absurd (false≢true (c.in_err-push.ensures.granted all))

pub loop-piece-preserved : goal.loop-piece-preserved
loop-piece-preserved g c = elim c.if-number-n.branch [
  | then-number-n+in_ok-push w ↦
      ap (λ v. map (λ p. p.now) v.items ++ named c.args.n (map (λ p. p.now) (drop (c.loop-piece.piece-index + 1) c.args.pieces.now))) w.order-is
      ∙ ap (λ ws. ws ++ named c.args.n (map (λ p. p.now) (drop (c.loop-piece.piece-index + 1) c.args.pieces.now))) (push_map (λ p. p.now) _ _ _ _ w.in_ok-push.ensures.items refl)
      ∙ kept_one (λ p. p.now) (λ w. w.number == c.args.n) c.args.pieces.now c.loop-piece.piece-index c.piece-item.result _ c.loop-piece-test.true c.piece-item.is (eq-eqb c.piece-item.result.now.number c.args.n (sym c.number.ensures ∙ w.if-number-n.true))
      ∙ c.loop-piece.invariant
  | else-number-n w ↦
      ap (λ v. map (λ p. p.now) v.items ++ named c.args.n (map (λ p. p.now) (drop (c.loop-piece.piece-index + 1) c.args.pieces.now))) w.order-is
      ∙ ap (λ ws. map (λ p. p.now) c.loop-piece.order.items ++ ws) (left_one (λ p. p.now) (λ w. w.number == c.args.n) c.args.pieces.now c.loop-piece.piece-index c.piece-item.result c.loop-piece-test.true c.piece-item.is (ne_eqb c.piece-item.result.now.number c.args.n (λ e. w.if-number-n.false (c.number.ensures ∙ e))))
      ∙ c.loop-piece.invariant
]

pub returns-clause-named : goal.returns-clause-named
returns-clause-named g c =
    sym (append-nil (map (λ p. p.now) c.loop-piece.order.items))
    ∙ sym (ap (λ ps. map (λ p. p.now) c.loop-piece.order.items ++ named c.args.n (map (λ p. p.now) ps)) (drop_all c.loop-piece.piece-index c.args.pieces.now c.loop-piece-test.false))
    ∙ c.loop-piece.invariant
