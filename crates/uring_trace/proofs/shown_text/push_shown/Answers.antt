use Rattle.std.proofs.lemmas.Result.{on_ok_weaker}
use Rattle.uring_trace.proofs.shown_text.push_shown.Goals as goal

pub returns-in-Sizes-clause-bytes : goal.returns-in-Sizes-clause-bytes
returns-in-Sizes-clause-bytes g c = rw c.in-Sizes.is (on_ok_weaker c.push_sizes.result (λ told h fits. told) (rw c.setup.ensures.value at c.push_sizes.ensures.bytes))

pub returns-in-Overflow-clause-bytes : goal.returns-in-Overflow-clause-bytes
returns-in-Overflow-clause-bytes g c = rw c.in-Overflow.is c.push_overflow.ensures.bytes

pub returns-in-Why-clause-bytes : goal.returns-in-Why-clause-bytes
returns-in-Why-clause-bytes g c = rw c.in-Why.is (on_ok_weaker c.push_why_in.result (λ told h fits. rw (c.why.ensures h fits) at told) c.push_why_in.ensures.bytes)
