use Rattle.std.proofs.Common.{◌+◌, map, drop, sym, ap, ◌∙◌}
use Rattle.uring_volume.proofs.Common.{false≢true, next_ways, steps_of, way, drop_all}
use Rattle.uring_volume.proofs.Seeking.{dropped}
use Rattle.uring_volume.proofs.ways.next_ways.Goals as goal

pub returns-in_err-put_steps-clause-granted : goal.returns-in_err-put_steps-clause-granted
returns-in_err-put_steps-clause-granted g c = λ all. absurd (false≢true (c.in_err-put_steps.ensures.granted all))

pub loop-way-preserved : goal.loop-way-preserved
loop-way-preserved g c =
    let h = c.args.past.now.history in
    let old = map (λ s. way (map (λ p. p.now) s.rest.items) s.now.items) c.loop-way.next.items in
    ap (next_ways h c.args.from (map (λ s. way (map (λ p. p.now) s.rest.items) s.now.items) (drop (c.loop-way.way-index + 1) c.args.ways.now)))
    (c.in_ok-put_steps.ensures.steps
    ∙ ap (λ ps. steps_of h c.args.from (way (map (λ p. p.now) ps) c.deref-in-loop-way.result.now) (map (λ p. p.now) ps) old) c.deref.ensures.value
    ∙ ap (λ bs. steps_of h c.args.from (way (map (λ p. p.now) c.way-item.result.rest.items) bs) (map (λ p. p.now) c.way-item.result.rest.items) old) c.deref-in-loop-way.ensures.value)
    ∙ sym (ap (λ ws. next_ways h c.args.from ws old) (dropped (λ s. way (map (λ p. p.now) s.rest.items) s.now.items) c.args.ways.now c.loop-way.way-index c.way-item.result c.loop-way-test.true c.way-item.is))
    ∙ c.loop-way.invariant

pub returns-clause-next : goal.returns-clause-next
returns-clause-next g c = rw (drop_all c.loop-way.way-index c.args.ways.now c.loop-way-test.false) at c.loop-way.invariant
