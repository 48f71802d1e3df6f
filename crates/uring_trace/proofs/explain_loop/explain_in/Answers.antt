use Rattle.std.proofs.Common.{true, false, rules}
use Rattle.uring_trace.proofs.Common.{IsTrue, telling_on}
use Rattle.uring_trace.proofs.ExplainStreams.{none_read}
use Rattle.uring_trace.proofs.explain_loop.explain_in.Goals as goal

pub returns-in_err-explainer-clause-lines : goal.returns-in_err-explainer-clause-lines
returns-in_err-explainer-clause-lines g c = none_read _ _ _ _ _ (search rules)

pub returns-in_err-explainer-clause-unrefused : goal.returns-in_err-explainer-clause-unrefused
returns-in_err-explainer-clause-unrefused g c = λ sure. none_read _ _ _ _ _ (search rules)

pub returns-clause-lines : goal.returns-clause-lines
returns-clause-lines g c = c.explain_all-explained.ensures.lines (telling_on c.args.setup.now) (λ no. let is : IsTrue false = no in absurd cc) c.in_ok-explainer.ensures.ok

pub returns-clause-unrefused : goal.returns-clause-unrefused
returns-clause-unrefused g c = λ sure. c.explain_all-explained.ensures.lines (record { setup = c.args.setup.now; is_unrefused = true }) (λ yes. sure) c.in_ok-explainer.ensures.unrefused

pub returns-clause-granted : goal.returns-clause-granted
returns-clause-granted g c = c.explain_all-explained.ensures.granted
