use Rattle.std.proofs.Common.{◌+◌, ◌++◌, map, drop, refl, sym, ap, ◌∙◌}
use Rattle.uring_volume.proofs.Common.{false≢true, after, append-nil, drop_all, may_follow}
use Rattle.uring_volume.proofs.Seeking.{kept_one, left_one}
use Rattle.uring_volume.proofs.Taking.{push_map}
use Rattle.uring_volume.proofs.order.left_after.Goals as goal
use Rattle.uring_volume.proofs.order.left_after.Goals.{then-may_follow+in_ok-push, else-may_follow}

pub returns-in_err-push-clause-granted : goal.returns-in_err-push-clause-granted
returns-in_err-push-clause-granted g c = λ all. absurd (false≢true (c.in_err-push.ensures.granted all))

pub loop-piece-preserved : goal.loop-piece-preserved
loop-piece-preserved g c = elim c.if-may_follow.branch [
  | then-may_follow+in_ok-push w ↦
      ap (λ v. map (λ p. p.now) v.items ++ after c.args.past.now.history c.args.n (map (λ p. p.now) (drop (c.loop-piece.piece-index + 1) c.args.rest.now))) w.others-is
      ∙ ap (λ ws. ws ++ after c.args.past.now.history c.args.n (map (λ p. p.now) (drop (c.loop-piece.piece-index + 1) c.args.rest.now))) (push_map (λ p. p.now) _ _ _ _ w.in_ok-push.ensures.items refl)
      ∙ kept_one (λ p. p.now) (may_follow c.args.past.now.history c.args.n) c.args.rest.now c.loop-piece.piece-index c.piece-item.result _ c.loop-piece-test.true c.piece-item.is (sym c.may_follow.ensures ∙ w.if-may_follow.true)
      ∙ c.loop-piece.invariant
  | else-may_follow w ↦
      ap (λ v. map (λ p. p.now) v.items ++ after c.args.past.now.history c.args.n (map (λ p. p.now) (drop (c.loop-piece.piece-index + 1) c.args.rest.now))) w.others-is
      ∙ ap (λ ws. map (λ p. p.now) c.loop-piece.others.items ++ ws) (left_one (λ p. p.now) (may_follow c.args.past.now.history c.args.n) c.args.rest.now c.loop-piece.piece-index c.piece-item.result c.loop-piece-test.true c.piece-item.is (sym c.may_follow.ensures ∙ w.if-may_follow.false))
      ∙ c.loop-piece.invariant
]

pub returns-clause-others : goal.returns-clause-others
returns-clause-others g c =
    sym (append-nil (map (λ p. p.now) c.loop-piece.others.items))
    ∙ sym (ap (λ ps. map (λ p. p.now) c.loop-piece.others.items ++ after c.args.past.now.history c.args.n (map (λ p. p.now) ps)) (drop_all c.loop-piece.piece-index c.args.rest.now c.loop-piece-test.false))
    ∙ c.loop-piece.invariant
