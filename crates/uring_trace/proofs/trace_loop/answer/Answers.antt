use Rattle.std.proofs.Common.{rules}
use Rattle.uring_trace.proofs.Traces.{none_answered, answers_written}
use Rattle.uring_trace.proofs.trace_loop.answer.Goals as goal

pub returns-in_err-feed-clause-lines : goal.returns-in_err-feed-clause-lines
returns-in_err-feed-clause-lines g c = λ manner sure before told h. none_answered manner _ _ c.args.session.now _ before told _ (search rules) h

pub returns-clause-lines : goal.returns-clause-lines
returns-clause-lines g c = λ manner sure before told h. answers_written manner _ _ _ c.args.session.now _ before told _ _ _ c.new-text.ensures.items (c.in_ok-feed.ensures.ok manner sure) (rw c.as_slice.ensures.value at c.write_all.ensures.text) h
