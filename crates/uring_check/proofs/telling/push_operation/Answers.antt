use Rattle.std.proofs.Common.{append_assoc}
use Rattle.uring_check.proofs.telling.push_operation.Goals as goal

pub returns-then-is_transfer-clause-told : goal.returns-then-is_transfer-clause-told
returns-then-is_transfer-clause-told g c =
    let parts = rw (c.from.ensures, c.len.ensures, c.in_ok-push_text.ensures.bytes, c.deed-deed.ensures, c.opcode.ensures) at c.push_named.ensures.bytes in
    rw (← c.is_transfer.ensures, c.if-is_transfer.true) (simp append_assoc (simp append_assoc at parts))

pub returns-else-is_transfer-clause-told : goal.returns-else-is_transfer-clause-told
returns-else-is_transfer-clause-told g c =
    let told = rw (c.deed-deed.ensures, c.opcode.ensures) at c.in_ok-push_text.ensures.bytes in
    rw (← c.is_transfer.ensures, c.if-is_transfer.false) told
