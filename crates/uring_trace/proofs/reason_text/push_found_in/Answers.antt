use Rattle.std.proofs.Common.{append_assoc}
use Rattle.uring_trace.proofs.reason_text.push_found_in.Goals as goal

pub returns-in-Nobody-clause-bytes : goal.returns-in-Nobody-clause-bytes
returns-in-Nobody-clause-bytes g c = rw c.in-Nobody.is c.push_text.ensures.bytes

pub returns-in-Running-clause-bytes : goal.returns-in-Running-clause-bytes
returns-in-Running-clause-bytes g c = rw c.in-Running.is c.push_terms.ensures.bytes

pub returns-in-Chosen-clause-bytes : goal.returns-in-Chosen-clause-bytes
returns-in-Chosen-clause-bytes g c = rw c.in-Chosen.is (simp append_assoc at c.push_named.ensures.bytes)
