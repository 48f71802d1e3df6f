use Rattle.std.proofs.Common.{length, ◌++◌, ◌∙◌, sym, ap, arith}
use Rattle.std.proofs.lemmas.List.{nil_from_length}
use Rattle.rtrb.specs.Ring.{received, known_items}
use Rattle.uring_ports.proofs.LaneLemmas.{one_taken, all_taken}
use Rattle.uring_ports.proofs.lane_rests.take_undelivered.Goals as goal

pub loop-preserved : goal.loop-preserved
loop-preserved c =
    let popped = c.pop_known.ensures.received.1 in
    let fewer = ap length popped in
    (omega arith, omega arith, one_taken c.loop.completions.items _ c.pop_known.result c.push_reserved.ensures.items popped c.loop.invariant.2)

pub returns : goal.returns
returns c =
    let seen = c.slots_beside in
    let all = all_taken c.loop.completions.items _ (nil_from_length (known_items c.loop.lane) (omega arith)) c.loop.invariant.2 in
    sym seen.ensures.producer.1 ∙ sym seen.ensures.fifo ∙ ap (λ l. l ++ known_items seen.new.self) seen.ensures.looked.1 ∙ ap (λ l. received c.args.lane.now ++ l) (sym all)
