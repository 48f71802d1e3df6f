use Rattle.std.proofs.Common.{◌+◌, ◌≡◌, cond, map, drop, sym, subst, ap, ◌∙◌}
use Rattle.uring_volume.proofs.Common.{cond-false, cond-true, found_at, has_safe, nat_eq, pointwise, put_by, way, false≢true, drop_all}
use Rattle.uring_volume.proofs.Seeking.{dropped}
use Rattle.uring_volume.specs.Past.{AreIssued}
use Rattle.uring_volume.proofs.IssuedWays.{way_issued}
use Rattle.uring_volume.proofs.ways.put_found.Goals as goal
use Rattle.uring_volume.proofs.ways.put_found.Goals.{then-not-has_safe+in_ok-put_bytes, else-not-has_safe}

pub loop-way-preserved : goal.loop-way-preserved
loop-way-preserved g c =
    let safe = ap (λ ps. has_safe c.args.past.now.history (map (λ p. p.now) ps)) (sym c.deref.ensures.value) ∙ sym c.has_safe.ensures in
    ap (λ bs. found_at c.args.past.now.history (map (λ s. way (map (λ p. p.now) s.rest.items) s.now.items) (drop (c.loop-way.way-index + 1) c.args.ways.now)) bs)
    (elim c.if-not-has_safe.branch as (λ _. map (λ b. b.items) c.if-not-has_safe.found.items
    ≡ cond (has_safe c.args.past.now.history (map (λ p. p.now) c.way-item.result.rest.items)) (map (λ b. b.items) c.loop-way.found.items) (put_by (pointwise nat_eq) (map (λ b. b.items) c.loop-way.found.items) c.way-item.result.now.items)) [
      | then-not-has_safe+in_ok-put_bytes w ↦
          ap (λ v. map (λ b. b.items) v.items) w.found-is
          ∙ w.in_ok-put_bytes.ensures.put
          ∙ ap (put_by (pointwise nat_eq) (map (λ b. b.items) c.loop-way.found.items)) w.deref-then-not-has_safe.ensures.value
          ∙ sym (cond-false _ _ _ (safe ∙ w.if-not-has_safe.true))
      | else-not-has_safe w ↦ ap (λ v. map (λ b. b.items) v.items) w.found-is ∙ sym (cond-true _ _ _ (safe ∙ w.if-not-has_safe.false))
    ])
    ∙ sym (ap (λ ws. found_at c.args.past.now.history ws (map (λ b. b.items) c.loop-way.found.items)) (dropped (λ s. way (map (λ p. p.now) s.rest.items) s.now.items) c.args.ways.now c.loop-way.way-index c.way-item.result c.loop-way-test.true c.way-item.is))
    ∙ c.loop-way.invariant

pub returns-in_err-put_bytes-clause-granted : goal.returns-in_err-put_bytes-clause-granted
returns-in_err-put_bytes-clause-granted g c = λ all. absurd (false≢true (c.in_err-put_bytes.ensures.granted all))

pub returns-clause-found : goal.returns-clause-found
returns-clause-found g c = rw (drop_all c.loop-way.way-index c.args.ways.now c.loop-way-test.false) at c.loop-way.invariant

pub has_safe-requires : goal.has_safe-requires
has_safe-requires g c =
    subst (λ ps. AreIssued c.args.past.now.history (map (λ p. p.now) ps)) (sym c.deref.ensures.value)
    (way_issued (λ s. way (map (λ p. p.now) s.rest.items) s.now.items) c.args.past.now.history c.args.ways.now c.loop-way.way-index c.way-item.result c.requires c.loop-way-test.true c.way-item.is)
