use Rattle.std.proofs.Common.{[], ◌∷◌, ◌++◌, ◌<◌, ◌∙◌, ap, arith, length}
use Rattle.rtrb.specs.Ring.{received, known_items}
use Rattle.uring_ports.specs.Messages.{put_of, owed, items_before}
use Rattle.uring_ports.specs.Ports.{with_call, with_close}
use Rattle.uring_ports.proofs.MessageSteps.{Sent, owed_snoc}
use Rattle.uring_ports.proofs.LaneLemmas.{same_head, takes_first, takes_close, takes_call}
use Rattle.uring_ports.proofs.call_lane.pull.Goals as goal

took_close : (c : goal.After-pop_known)
    → Sent (received c.pop_known.new.self) (with_close (put_of (received c.args.lane.now)))
took_close c =
    let same = c.slots-seen.ensures.looked.1 in
    let first = same_head (known_items c.slots-seen.new.self) (known_items c.pop_known.new.self) c.peek_known-first.result.now c.pop_known.result c.peek_known-first.ensures c.pop_known.ensures.received.1 in
    rw (← same) (takes_close (received c.slots-seen.new.self) (received c.pop_known.new.self) c.pop_known.result (rw same c.requires.whole) c.pop_known.ensures.allowed (ap (λ m. m.closes) first ∙ c.if-first.true) c.pop_known.ensures.received.0)

pub returns-then-first-clause-whole : goal.returns-then-first-clause-whole
returns-then-first-clause-whole c = (took_close c).whole

pub returns-then-first-clause-pulled : goal.returns-then-first-clause-pulled
returns-then-first-clause-pulled c = (c.clear.ensures.items, c.requires.open, (took_close c).put)

pub pull_rest-requires-clause-owed : goal.pull_rest-requires-clause-owed
pull_rest-requires-clause-owed c =
    let first = same_head (known_items c.slots-seen.new.self) (known_items c.pop_known-2.new.self) c.peek_known-first.result.now c.pop_known-2.result c.peek_known-first.ensures c.pop_known-2.ensures.received.1 in
    ap owed c.pop_known-2.ensures.received.0 ∙ owed_snoc (received c.slots-seen.new.self) c.pop_known-2.result ∙ ap (λ m. m.left) first

some_pulled : (c : goal.After-pull_rest) → 0 < length c.pull_rest.new.items.items
some_pulled c = omega (arith, c.pull_rest.ensures.count)

took_call : (c : goal.After-pull_rest)
    → Sent (received c.pull_rest.new.lane) (with_call (put_of (received c.args.lane.now)) c.pull_rest.new.items.items)
took_call c =
    let same = c.slots-seen.ensures.looked.1 in
    let first = same_head (known_items c.slots-seen.new.self) (known_items c.pop_known-2.new.self) c.peek_known-first.result.now c.pop_known-2.result c.peek_known-first.ensures c.pop_known-2.ensures.received.1 in
    let items = c.push_reserved.ensures.items ∙ ap (λ l. l ++ c.peek_known-first.result.now.item ∷ []) c.clear.ensures.items in
    let one = c.pop_known-2.ensures.received.0 ∙ ap (λ m. received c.slots-seen.new.self ++ m ∷ []) first ∙ takes_first (received c.slots-seen.new.self) c.peek_known-first.result.now c.push_reserved.new.self.items c.if-first.false items in
    takes_call (received c.args.lane.now) (received c.pull_rest.new.lane) c.pull_rest.new.items.items c.requires.whole c.requires.open (some_pulled c) (c.pull_rest.ensures.items (received c.args.lane.now) (one ∙ ap (λ l. l ++ items_before c.peek_known-first.result.now.left c.push_reserved.new.self.items) same))

pub returns-clause-whole : goal.returns-clause-whole
returns-clause-whole c = (took_call c).whole

pub returns-clause-pulled : goal.returns-clause-pulled
returns-clause-pulled c = (some_pulled c, omega (arith, c.slots-seen.new.self.counts, c.pull_rest.ensures.count), c.requires.open, (took_call c).put)
