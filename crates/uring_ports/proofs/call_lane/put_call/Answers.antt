use Rattle.std.proofs.Common.{◌≡◌, suc, ◌-◌, length, ◌∙◌, ap, arith}
use Rattle.rtrb.specs.Ring.{sent}
use Rattle.uring_ports.specs.Messages.{put_of}
use Rattle.uring_ports.proofs.MessageSteps.{nothing_owed, places}
use Rattle.uring_ports.proofs.LaneLemmas.{may_send, sends_item, sends_all}
use Rattle.uring_ports.proofs.call_lane.put_call.Goals as goal

pub returns-then-not-has_room_for-clause-put : goal.returns-then-not-has_room_for-clause-put
returns-then-not-has_room_for-clause-put c =
    let same = c.has_room_for.ensures.looked.1 in
    (ap put_of same, omega (arith, c.has_room_for.ensures.capacity, ap length same, places (sent c.args.lane.now) c.requires.whole, c.if-not-has_room_for.ensures.room))

pub push_reserved-requires : goal.push_reserved-requires
push_reserved-requires c =
    let items = c.args.items.now in
    let i = c.loop-index.index in
    let left : length items - i ≡ suc (length items - i - 1) = omega arith in (
      omega arith,
      may_send c.args.lane.now.end.past c.loop-index.lane.end.past items i (length items - i - 1) c.index-items-index.result c.requires.open (nothing_owed c.args.lane.now.end.past c.requires.whole c.requires.open) left c.loop-index.invariant.2,
    )

pub loop-index-preserved : goal.loop-index-preserved
loop-index-preserved c =
    let items = c.args.items.now in
    let i = c.loop-index.index in
    let left : length items - i ≡ suc (length items - i - 1) = omega arith in
    let ring = c.push_reserved.ensures.ring in
    let inv = c.loop-index.invariant in (
      ((ring.0.0 ∙ inv.0.0.0, ring.0.1 ∙ inv.0.0.1, ring.0.2 ∙ inv.0.0.2, ring.0.3 ∙ inv.0.0.3), ring.1 ∙ inv.0.1),
      omega arith,
      c.push_reserved.ensures.sent.0 ∙ sends_item c.args.lane.now.end.past c.loop-index.lane.end.past items i (length items - i - 1) c.index-items-index.result c.loop-index-test.true c.index-items-index.is left inv.2,
    )

pub returns-clause-whole : goal.returns-clause-whole
returns-clause-whole c =
    (sends_all c.args.lane.now.end.past c.loop-index.lane.end.past c.args.items.now c.loop-index.index c.requires.whole c.requires.open c.requires.some c.loop-index-test.false c.loop-index.invariant.2).whole

pub returns-clause-put : goal.returns-clause-put
returns-clause-put c =
    (sends_all c.args.lane.now.end.past c.loop-index.lane.end.past c.args.items.now c.loop-index.index c.requires.whole c.requires.open c.requires.some c.loop-index-test.false c.loop-index.invariant.2).put
