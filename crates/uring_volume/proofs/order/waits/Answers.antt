use Rattle.std.proofs.Common.{arith, ◌<◌, length, sym, ◌∙◌, ap}
use Rattle.uring_volume.specs.Events.{goes_along}
use Rattle.uring_volume.proofs.Taking.{one_found}
use Rattle.uring_volume.proofs.order.waits.Goals as goal

pub returns-then-goes_along : goal.returns-then-goes_along
returns-then-goes_along c =
    let within : c.loop-piece.piece-index < length c.args.rest.now = omega arith in
    sym (one_found (λ p. p.now) (λ w. goes_along c.args.past.now.history w.number c.args.n) c.args.rest.now c.loop-piece.piece-index c.piece-item.result within c.piece-item.is
    (ap (λ m. goes_along c.args.past.now.history m c.args.n) (sym c.number.ensures) ∙ sym c.goes_along.ensures ∙ c.if-goes_along.true))
