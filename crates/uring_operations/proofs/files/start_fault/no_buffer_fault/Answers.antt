use Rattle.std.proofs.Common.{w32, rules, refl}
use Rattle.std.proofs.lemmas.Bool.{ne_eqb}
use Rattle.std.proofs.lemmas.Int.{to_z-of_z}
use Rattle.uring_operations.proofs.files.start_fault.no_buffer_fault.Goals as goal

pub returns-then-entry-ne0 : goal.returns-then-entry-ne0
returns-then-entry-ne0 c = rw (to_z-of_z w32 c.buffer_fault.result (search rules), c.buffer_fault.ensures, ne_eqb _ _ c.if-entry-ne0.true) refl

pub returns-else-entry-ne0 : goal.returns-else-entry-ne0
returns-else-entry-ne0 c =
    let r = c.buffer_fault-else-entry-ne0 in
    rw (to_z-of_z w32 r.result (search rules), r.ensures, c.if-entry-ne0.false) refl
