use Rattle.std.proofs.Common.{◌≡◌, ◌+◌, ◌++◌, map, take, drop, get_or, refl, rules, sym, subst, ap, ◌∙◌, arith}
use Rattle.uring_volume.proofs.Common.{after, chosen, false≢true, may_come, named, vec_len}
use Rattle.uring_volume.proofs.Taking.{one_chosen, none_chosen, rest_chosen}
use Rattle.uring_volume.specs.Past.{AreIssued}
use Rattle.uring_volume.proofs.IssuedWays.{after_issued}
use Rattle.uring_volume.proofs.order.choose.Goals as goal
use Rattle.uring_volume.proofs.order.choose.Goals.{then-may_come+in_ok-push_named+in_ok-rest, else-may_come}

pub loop-n-preserved : goal.loop-n-preserved
loop-n-preserved g c =
    let h = c.args.past.now.history in
    let n = get_or c.args.choice.now c.loop-n.n-index 0 in
    let tells = ap (λ ps. may_come h (map (λ p. p.now) ps) n) (sym c.deref.ensures.value) ∙ sym c.may_come.ensures in
    elim c.if-may_come.branch [
      | then-may_come+in_ok-push_named+in_ok-rest w ↦
          let took = w.in_ok-push_named.ensures.named ∙ ap (λ ps. map (λ p. p.now) c.loop-n.order.items ++ named n (map (λ p. p.now) ps)) w.deref-then-may_come.ensures.value in
          let stays = ap (λ v. map (λ p. p.now) v.items) w.rest-is ∙ w.in_ok-rest.ensures.others ∙ ap (λ ps. after h n (map (λ p. p.now) ps)) w.deref-then-may_come-2.ensures.value in
          record {
            issued = after_issued h n (map (λ p. p.now) c.loop-n.rest.items) (map (λ p. p.now) c.if-may_come.rest.items) stays c.loop-n.invariant.issued;
            left =
                one_chosen h (map (λ p. p.now) c.loop-n.order.items) _ _ (map (λ p. p.now) c.loop-n.rest.items) _ n c.loop-n.n-index c.args.choice.now c.loop-n-test.true refl (tells ∙ w.if-may_come.true) took stays (ap (λ v. map (λ p. p.now) v.items) w.order-is)
                ∙ c.loop-n.invariant.left;
          }
      | else-may_come w ↦ record {
        issued = subst (λ v. AreIssued h (map (λ p. p.now) v.items)) (sym w.rest-is) c.loop-n.invariant.issued;
        left =
            ap (λ v. map (λ p. p.now) v.items ++ chosen h (map (λ p. p.now) c.if-may_come.rest.items) (drop (c.loop-n.n-index + 1) c.args.choice.now)) w.order-is
            ∙ ap (λ v. map (λ p. p.now) c.loop-n.order.items ++ chosen h (map (λ p. p.now) v.items) (drop (c.loop-n.n-index + 1) c.args.choice.now)) w.rest-is
            ∙ none_chosen h (map (λ p. p.now) c.loop-n.order.items) (map (λ p. p.now) c.loop-n.rest.items) n c.loop-n.n-index c.args.choice.now c.loop-n-test.true refl (tells ∙ w.if-may_come.false)
            ∙ c.loop-n.invariant.left;
      }
    ]

pub returns-in_err-reserve-clause-granted : goal.returns-in_err-reserve-clause-granted
returns-in_err-reserve-clause-granted g c = λ all. absurd (false≢true (c.in_err-reserve.ensures.granted (vec_len c.loop-n.order + c.count_up_to_safe-count.result) (all _) (omega arith)))

pub returns-clause-chosen : goal.returns-clause-chosen
returns-clause-chosen g c =
    let made : c.extend_from_slice.new.self.items ≡ c.loop-n.order.items ++ take c.count_up_to_safe-count.result c.loop-n.rest.items = search rules in
    rest_chosen (λ p. p.now) c.args.past.now.history c.loop-n.order.items c.loop-n.rest.items _ _ c.count_up_to_safe-count.result c.loop-n.n-index c.args.choice.now c.loop-n-test.false c.deref-2.ensures.value made c.count_up_to_safe-count.ensures.value
    ∙ c.loop-n.invariant.left
