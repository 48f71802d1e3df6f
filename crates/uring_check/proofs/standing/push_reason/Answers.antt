use Rattle.std.proofs.Common.{append_assoc}
use Rattle.uring_check.proofs.standing.push_reason.Goals as goal

pub returns-clause-told : goal.returns-clause-told
returns-clause-told g c =
    rw c.in-Some.is (simp append_assoc (simp append_assoc at (rw (c.in_ok-push_why_in.ensures.bytes, c.in_ok-push_text.ensures.bytes, c.in_ok-push_named.ensures.bytes) at c.push_text-2.ensures.bytes)))
