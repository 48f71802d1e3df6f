use Rattle.std.proofs.Common.{append_assoc}
use Rattle.uring_trace.proofs.reason_text.push_reason.Goals as goal

pub returns-in-Stands-clause-bytes : goal.returns-in-Stands-clause-bytes
returns-in-Stands-clause-bytes g c = rw (c.in-Some.is, c.in-Stands.is) (simp append_assoc at (rw c.in_ok-push_text.ensures.bytes at c.push_why_in.ensures.bytes))

pub returns-in-Finds-clause-bytes : goal.returns-in-Finds-clause-bytes
returns-in-Finds-clause-bytes g c = rw (c.in-Some.is, c.in-Finds.is) (simp append_assoc at (rw c.in_ok-push_text.ensures.bytes at c.push_found_in.ensures.bytes))
