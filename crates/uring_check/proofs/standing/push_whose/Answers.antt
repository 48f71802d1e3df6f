use Rattle.std.proofs.Common.{append_assoc}
use Rattle.uring_check.proofs.standing.push_whose.Goals as goal

pub returns-in_ok-push_named-in-Some-Some-2-clause-told : goal.returns-in_ok-push_named-in-Some-Some-2-clause-told
returns-in_ok-push_named-in-Some-Some-2-clause-told g c =
    rw (c.in-Some-Some.is-0, c.in-Some-Some.is-1) (simp append_assoc (simp append_assoc at (rw (c.in_ok-push_named-in-Some-Some-2.ensures.bytes, c.in_ok-push_named-in-Some-Some.ensures.bytes) at c.push_text.ensures.bytes)))
