use Rattle.std.proofs.Common.{append_assoc, w32, rules}
use Rattle.std.proofs.lemmas.Int.{to_z-of_z}
use Rattle.uring_check.proofs.telling.push_wanted.Goals as goal

pub returns-in_ok-push_text-in-Some-clause-told : goal.returns-in_ok-push_text-in-Some-clause-told
returns-in_ok-push_text-in-Some-clause-told g c =
    rw (c.in-AnyEnd.is, c.in-Some.is) (simp append_assoc (simp append_assoc at (rw c.in_ok-push_text-in-Some.ensures.bytes at c.push_operation.ensures.told)))

pub returns-in_ok-push_signed-in-EndOrNoMemory-clause-told : goal.returns-in_ok-push_signed-in-EndOrNoMemory-clause-told
returns-in_ok-push_signed-in-EndOrNoMemory-clause-told g c =
    let signed = rw (to_z-of_z w32 c.in-EndOrNoMemory.res (search rules)) at c.in_ok-push_signed-in-EndOrNoMemory.ensures.bytes in
    rw c.in-EndOrNoMemory.is (simp append_assoc at (rw (signed, c.in_ok-push_text-in-EndOrNoMemory.ensures.bytes) at c.push_text-in-EndOrNoMemory-2.ensures.bytes))
