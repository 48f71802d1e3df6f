use Rattle.std.proofs.Common.{rules}
use Rattle.uring_trace.proofs.Traces.{last_not_answered, last_written}
use Rattle.uring_trace.proofs.trace_loop.answer_last.Goals as goal

pub returns-in_err-finish-clause-lines : goal.returns-in_err-finish-clause-lines
returns-in_err-finish-clause-lines g c = λ manner sure before told h. last_not_answered manner _ _ c.args.session.now before told (search rules) h

pub returns-clause-lines : goal.returns-clause-lines
returns-clause-lines g c = λ manner sure before told h. last_written manner _ _ _ c.args.session.now before told _ _ c.new-text.ensures.items (c.in_ok-finish.ensures.ok manner sure) (rw c.as_slice.ensures.value at c.write_all.ensures.text) h
