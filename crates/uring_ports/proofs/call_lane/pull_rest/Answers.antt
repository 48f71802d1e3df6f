use Rattle.std.proofs.Common.{◌≡◌, suc, ◌+◌, ◌-◌, ◌++◌, length, ◌∙◌, ap, sym, arith}
use Rattle.rtrb.specs.Ring.{received}
use Rattle.uring_ports.specs.Messages.{owed, items_before}
use Rattle.uring_ports.proofs.LaneLemmas.{takes_item, owes_less}
use Rattle.uring_ports.proofs.call_lane.pull_rest.Goals as goal

pub loop-preserved : goal.loop-preserved
loop-preserved c =
    let left = c.args.left - c.loop.counter in
    let inv = c.loop.invariant in
    let ring = c.pop_known.ensures.ring in
    let popped = c.pop_known.ensures.received in
    let m = c.pop_known.result in
    let more : left ≡ suc (c.args.left - (c.loop.counter + 1)) = omega arith in
    let owes : owed (received c.loop.lane) ≡ left = omega (arith, inv.4) in (
      ((ring.0.0 ∙ inv.0.0.0, ring.0.1 ∙ inv.0.0.1, ring.0.2 ∙ inv.0.0.2, ring.0.3 ∙ inv.0.0.3), ring.1 ∙ inv.0.1),
      c.push_reserved.ensures.capacity ∙ inv.1,
      omega arith,
      omega (arith, ap length popped.1, inv.3),
      omega (arith, ap owed popped.0, owes_less (received c.loop.lane) (c.args.left - (c.loop.counter + 1)) m (owes ∙ more) c.pop_known.ensures.allowed),
      λ before is. popped.0 ∙ takes_item before (received c.loop.lane) c.loop.items.items left (c.args.left - (c.loop.counter + 1)) m more owes c.pop_known.ensures.allowed (inv.5 before is) ∙ ap (λ l. before ++ items_before (c.args.left - (c.loop.counter + 1)) l) (sym c.push_reserved.ensures.items),
    )
