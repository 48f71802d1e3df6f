use Rattle.std.proofs.Common.{true, false, rules}
use Rattle.std.specs.Prelude.{IsTrue}
use Rattle.uring_trace.proofs.Traces.{none_read}
use Rattle.uring_trace.proofs.trace_loop.trace_in.Goals as goal

pub returns-in_err-session-clause-lines : goal.returns-in_err-session-clause-lines
returns-in_err-session-clause-lines g c = none_read _ _ _ _ (search rules)

pub returns-in_err-session-clause-unrefused : goal.returns-in_err-session-clause-unrefused
returns-in_err-session-clause-unrefused g c = λ sure. none_read _ _ _ _ (search rules)

pub returns-clause-lines : goal.returns-clause-lines
returns-clause-lines g c = c.answer_all-answered.ensures.lines (record { setup = c.args.setup.now; is_echo = c.args.is_echo; is_unrefused = false }) (λ no. let is : IsTrue false = no in absurd cc) (c.in_ok-session.ensures.ok false)

pub returns-clause-unrefused : goal.returns-clause-unrefused
returns-clause-unrefused g c = λ sure. c.answer_all-answered.ensures.lines (record { setup = c.args.setup.now; is_echo = c.args.is_echo; is_unrefused = true }) (λ yes. sure) (c.in_ok-session.ensures.ok true)
