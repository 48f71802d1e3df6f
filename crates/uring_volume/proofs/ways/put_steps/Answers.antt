use Rattle.std.proofs.Common.{◌≡◌, ◌+◌, ◌++◌, cond, length, map, take, drop, sym, ap, ◌∙◌, rules}
use Rattle.uring_volume.proofs.Common.{bytes_over, cond-false, cond-true, put_by, same_way, stepped, steps_of, waits_for_one, way, after, false≢true, drop_all}
use Rattle.uring_volume.proofs.Painting.{written_back}
use Rattle.uring_volume.proofs.Seeking.{dropped}
use Rattle.uring_volume.proofs.ways.put_steps.Goals as goal
use Rattle.uring_volume.proofs.ways.put_steps.Goals.{then-not-waits+in_ok-later+in_ok-left+in_ok-put_way, else-not-waits}

pub loop-piece-preserved : goal.loop-piece-preserved
loop-piece-preserved g c =
    let tells = ap (waits_for_one c.args.past.now.history (map (λ p. p.now) c.args.rest.now)) (sym c.number.ensures) ∙ sym c.waits.ensures in
    ap (λ ss. steps_of c.args.past.now.history c.args.from (way (map (λ p. p.now) c.args.rest.now) c.args.now.now) (map (λ p. p.now) (drop (c.loop-piece.piece-index + 1) c.args.rest.now)) ss)
    (elim c.if-not-waits.branch as (λ _. map (λ s. way (map (λ p. p.now) s.rest.items) s.now.items) c.if-not-waits.next.items
    ≡ cond (waits_for_one c.args.past.now.history (map (λ p. p.now) c.args.rest.now) c.piece-item.result.now.number) (map (λ s. way (map (λ p. p.now) s.rest.items) s.now.items) c.loop-piece.next.items)
    (put_by same_way (map (λ s. way (map (λ p. p.now) s.rest.items) s.now.items) c.loop-piece.next.items) (stepped c.args.past.now.history c.args.from (way (map (λ p. p.now) c.args.rest.now) c.args.now.now) c.piece-item.result.now))) [
      | then-not-waits+in_ok-later+in_ok-left+in_ok-put_way w ↦
          ap (λ v. map (λ s. way (map (λ p. p.now) s.rest.items) s.now.items) v.items) w.next-is
          ∙ w.in_ok-put_way.ensures.put
          ∙ ap (λ ws. put_by same_way (map (λ s. way (map (λ p. p.now) s.rest.items) s.now.items) c.loop-piece.next.items) (way ws (take w.in_ok-left.left.len (w.write_at.new.now ++ drop (length w.write_at.new.now) w.in_ok-left.left.items))))
          (w.in_ok-later.ensures.others ∙ ap (λ n. after c.args.past.now.history n (map (λ p. p.now) c.args.rest.now)) w.number-then-not-waits.ensures)
          ∙ ap (λ bs. put_by same_way (map (λ s. way (map (λ p. p.now) s.rest.items) s.now.items) c.loop-piece.next.items) (way (after c.args.past.now.history c.piece-item.result.now.number (map (λ p. p.now) c.args.rest.now)) bs))
          (written_back w.write_at.new.now w.in_ok-left.left.items w.in_ok-left.left.len (search rules) (w.write_at.auto.now ∙ ap length w.deref_mut.ensures.value)
          ∙ w.write_at.ensures ∙ ap (λ bs. bytes_over c.args.from bs c.piece-item.result.now) (w.deref_mut.ensures.value ∙ w.in_ok-left.ensures.bytes))
          ∙ sym (cond-false _ _ _ (tells ∙ w.if-not-waits.true))
      | else-not-waits w ↦ ap (λ v. map (λ s. way (map (λ p. p.now) s.rest.items) s.now.items) v.items) w.next-is ∙ sym (cond-true _ _ _ (tells ∙ w.if-not-waits.false))
    ])
    ∙ sym (ap (λ ws. steps_of c.args.past.now.history c.args.from (way (map (λ p. p.now) c.args.rest.now) c.args.now.now) ws (map (λ s. way (map (λ p. p.now) s.rest.items) s.now.items) c.loop-piece.next.items))
    (dropped (λ p. p.now) c.args.rest.now c.loop-piece.piece-index c.piece-item.result c.loop-piece-test.true c.piece-item.is))
    ∙ c.loop-piece.invariant

pub returns-in_err-later-clause-granted : goal.returns-in_err-later-clause-granted
returns-in_err-later-clause-granted g c = λ all. absurd (false≢true (c.in_err-later.ensures.granted all))

pub returns-in_err-left-clause-granted : goal.returns-in_err-left-clause-granted
returns-in_err-left-clause-granted g c = λ all. absurd (false≢true (c.in_err-left.ensures.granted all))

pub returns-in_err-put_way-clause-granted : goal.returns-in_err-put_way-clause-granted
returns-in_err-put_way-clause-granted g c = λ all. absurd (false≢true (c.in_err-put_way.ensures.granted all))

pub returns-clause-steps : goal.returns-clause-steps
returns-clause-steps g c = rw (drop_all c.loop-piece.piece-index c.args.rest.now c.loop-piece-test.false) at c.loop-piece.invariant
