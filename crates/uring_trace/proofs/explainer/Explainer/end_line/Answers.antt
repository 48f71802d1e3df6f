use Rattle.std.proofs.Common.{◌≡◌, ◌+◌, ◌-◌, ◌^◌, min}
use Rattle.uring_trace.proofs.ExplainLines.{explain_line}
use Rattle.uring_trace.proofs.explainer.Explainer.end_line.Goals as goal

pub returns-clause-ok : goal.returns-clause-ok
returns-clause-ok g c =
    let next : c.saturating_add-self.result ≡ min (c.args.self.now.number + 1) (2 ^ 64 - 1) = rw c.in_ok-tell_line.ensures.number at c.saturating_add-self.ensures in
    rw c.clear.ensures
    (λ telling sure before told noted h. explain_line _ telling _ _ _ _ _ _ _ before told _ _ noted _ _ next c.in_ok-tell_line.ensures.told sure h)
