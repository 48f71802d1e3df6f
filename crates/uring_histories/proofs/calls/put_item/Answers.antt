use Rattle.std.proofs.Common.{[], ◌∷◌}
use Rattle.std.proofs.lemmas.Result.{on_ok_weaker}
use Rattle.uring_core.specs.declared.step.Step.TheVariants as step
use Rattle.uring_histories.proofs.Recorded.{made_after}
use Rattle.uring_histories.proofs.calls.put_item.Goals as goal

pub returns-in_ok-fill-in-Entry : goal.returns-in_ok-fill-in-Entry
returns-in_ok-fill-in-Entry c = λ g h r.
    let filled = c.in_ok-fill-in-Entry.ensures g h r in
    rw c.in-Entry.is (on_ok_weaker c.make_numbered.result
    (λ staged. made_after g _ _ h (step.Fill c.args.slot c.in-Entry.entry ∷ []) (step.Index c.args.slot ∷ []) filled staged)
    (c.make_numbered.ensures g filled.after filled.recorded))
