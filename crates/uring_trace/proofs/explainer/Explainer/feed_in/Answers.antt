use Rattle.std.proofs.Common.{true, false}
use Rattle.uring_trace.proofs.Common.{IsTrue, on_ok_weaker, telling_on}
use Rattle.uring_trace.proofs.explainer.Explainer.feed_in.Goals as goal

pub returns-clause-ok : goal.returns-clause-ok
returns-clause-ok g c = on_ok_weaker c.take_all.result (λ h setup. h (telling_on setup) (λ no. let is : IsTrue false = no in absurd cc)) c.take_all.ensures.ok

pub returns-clause-unrefused : goal.returns-clause-unrefused
returns-clause-unrefused g c = on_ok_weaker c.take_all.result (λ h sure setup. h (record { setup = setup; is_unrefused = true }) (λ yes. sure)) c.take_all.ensures.ok
