use Rattle.uring_callers.proofs.Replaying.{replayed_anew}
use Rattle.uring_callers.proofs.lists.run_twice.Goals as goal

pub returns : goal.returns
returns c =
    let first = c.in_ok-first.ensures in
    let second = c.in_ok-second.ensures in
    replayed_anew c.args.setup.now c.args.steps.now c.in_ok-first.first.items c.in_ok-second.second.items first.count second.count first.lawful second.lawful
