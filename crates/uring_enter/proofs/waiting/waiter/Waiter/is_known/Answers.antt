use Rattle.std.proofs.Common.{◌==◌, ap, ◌∙◌}
use Rattle.uring_enter.specs.Waiting.Waiters.{found_in}
use Rattle.uring_enter.proofs.WaiterRuns.{known}
use Rattle.uring_enter.proofs.waiting.waiter.Waiter.is_known.Goals as goal

pub returns : goal.returns
returns c log ring keeps =
    ap (λ n. n == c.args.lookout.now.round) keeps.found ∙ ap (λ n. found_in log == n) ring.round ∙ known log
