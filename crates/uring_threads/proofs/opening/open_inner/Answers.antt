use Rattle.std.proofs.Common.{subst}
use Rattle.uring_workers.specs.Opened.{AreOpened}
use Rattle.uring_threads.proofs.opening.open_inner.Goals as goal

pub returns-clause-opened : goal.returns-clause-opened
returns-clause-opened g c =
    subst (λ n. AreOpened n c.in_ok-lanes.lanes.items c.in_ok-lanes.workers.items) c.files.ensures.value c.in_ok-lanes.ensures.opened
