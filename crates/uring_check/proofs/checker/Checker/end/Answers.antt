use Rattle.uring_check.proofs.FirstLines.{ends_told}
use Rattle.uring_check.proofs.checker.Checker.end.Goals as goal

pub returns-clause-told : goal.returns-clause-told
returns-clause-told g c = λ d all lines k. ends_told d all lines c.args.self.now _ c.in_ok-tell_end.ensures.told k
