use Rattle.std.proofs.Common.{[], ◌∷◌}
use Rattle.uring_histories.proofs.Common.{all_published_as, call_steps, item_steps, on_ok_weaker, take_steps}
use Rattle.uring_core.specs.declared.step.Step.TheVariants as step
use Rattle.uring_histories.proofs.Recorded.{made_after, same_made, steps_for, whole_call}
use Rattle.uring_histories.proofs.calls.submit.Goals as goal

pub returns : goal.returns
returns c = λ g h r.
    let items = all_published_as c.args.items.now in
    let n = c.args.count in
    let put = c.in_ok-put_items.ensures g h r in
    let tail = c.in_ok-make.ensures g put.after put.recorded in
    let begun = c.in_ok-make_numbered.ensures g tail.after tail.recorded in
    let taken = c.in_ok-take_all.ensures g begun.after begun.recorded in
    let ended = c.in_ok-make-2.ensures g taken.after taken.recorded in
    on_ok_weaker c.make-3.result
    (λ head.
    same_made g c.make-3.new.self h (steps_for items n) (call_steps items) (whole_call c.args.items.now n c.requires)
    (made_after g _ _ h (item_steps 0 items) _ put
    (made_after g _ _ put.after (step.StoreTail ∷ []) _ tail
    (made_after g _ _ tail.after (step.Begin n ∷ []) _ begun
    (made_after g _ _ begun.after (take_steps n) _ taken
    (made_after g _ _ taken.after (step.End ∷ []) (step.LoadHead ∷ []) ended head))))))
    (c.make-3.ensures g ended.after ended.recorded)
