use Rattle.std.proofs.Common.{◌==◌, ap, ◌∙◌}
use Rattle.uring_enter.specs.Waiting.Waiters.{waited_in}
use Rattle.uring_enter.proofs.WaiterRuns.{waits}
use Rattle.uring_enter.proofs.waiting.waiter.Waiter.has_to_wait.Goals as goal

pub returns : goal.returns
returns c log ring keeps =
    ap (λ n. n == c.args.lookout.now.release) keeps.waited ∙ ap (λ n. waited_in log == n) ring.release ∙ waits log
