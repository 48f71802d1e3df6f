use Rattle.std.proofs.Common.{length, ◌++◌, ◌∙◌, ap, refl, sym, arith}
use Rattle.std.proofs.lemmas.List.{nil_from_length}
use Rattle.rtrb.specs.Ring.{sent, received, known_items}
use Rattle.uring_ports.specs.Messages.{items_of}
use Rattle.uring_ports.proofs.MessageSteps.{leaves}
use Rattle.uring_ports.proofs.LaneLemmas.{one_taken, all_taken, items_more}
use Rattle.uring_ports.proofs.lane_rests.take_unsent.Goals as goal

pub loop-preserved : goal.loop-preserved
loop-preserved c =
    let message = c.pop_known-message.result in
    let popped = c.pop_known-message.ensures.received.1 in
    let fewer = ap length popped in
    (omega arith, omega arith, one_taken c.loop.items.items _ message.item c.push_reserved.ensures.items (items_more message _ popped c.if-message.false) c.loop.invariant.2)

pub returns-then-message : goal.returns-then-message
returns-then-message c =
    let seen = c.slots_beside in
    let known = known_items seen.new.self in
    let fifo = ap (λ l. l ++ known) (sym seen.ensures.looked.1) ∙ seen.ensures.fifo ∙ seen.ensures.producer.1 in
    let popped = c.pop_known-message.ensures.received.1 in
    let items = all_taken c.loop.items.items _ (rw (popped, c.if-message.true) refl) c.loop.invariant.2 in
    rw items (leaves (received c.args.lane.now) known (sent c.args.sender.now) c.requires.received c.requires.sent fifo)

pub returns : goal.returns
returns c =
    let seen = c.slots_beside in
    let known = known_items seen.new.self in
    let fifo = ap (λ l. l ++ known) (sym seen.ensures.looked.1) ∙ seen.ensures.fifo ∙ seen.ensures.producer.1 in
    let items = all_taken c.loop.items.items _ (ap items_of (nil_from_length (known_items c.loop.lane) (omega arith))) c.loop.invariant.2 in
    rw items (leaves (received c.args.lane.now) known (sent c.args.sender.now) c.requires.received c.requires.sent fifo)
