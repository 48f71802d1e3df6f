use Rattle.std.proofs.Common.{take, ap, rules, arith}
use Rattle.uring_histories.proofs.Common.{all_published_as, item_steps, published_as, steps_of_item, take_all}
use Rattle.uring_histories.proofs.Recorded.{made_after, same_made, none_made, items_more}
use Rattle.uring_histories.proofs.calls.put_items.Goals as goal

pub loop-slot-init : goal.loop-slot-init
loop-slot-init c = λ g h r. none_made g _ h r

pub loop-slot-preserved : goal.loop-slot-preserved
loop-slot-preserved c = λ g h r.
    let items = c.args.items.now in
    let i = c.loop-slot.slot in
    let before = c.loop-slot.invariant g h r in
    let now = c.in_ok-put_item.ensures g before.after before.recorded in
    same_made g _ h _ _ (items_more items i c.index-items-slot.result (search rules) c.index-items-slot.is)
    (made_after g _ _ h (item_steps 0 (all_published_as (take i items))) (steps_of_item i (published_as c.index-items-slot.result)) before now)

pub returns : goal.returns
returns c = λ g h r.
    same_made g c.loop-slot.recording h _ _
    (ap (λ l. item_steps 0 (all_published_as l)) (take_all c.loop-slot.slot c.args.items.now (omega arith)))
    (c.loop-slot.invariant g h r)
