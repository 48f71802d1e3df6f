use Rattle.std.proofs.Common.{◌==◌, ap, ◌∙◌}
use Rattle.uring_enter.specs.Waiting.Waiters.{seen_in}
use Rattle.uring_enter.proofs.WaiterRuns.{seen}
use Rattle.uring_enter.proofs.waiting.waiter.Waiter.is_seen.Goals as goal

pub returns : goal.returns
returns c log ring keeps =
    ap (λ n. n == c.args.lookout.now.moment) keeps.seen ∙ ap (λ n. seen_in log == n) ring.moment ∙ seen log
