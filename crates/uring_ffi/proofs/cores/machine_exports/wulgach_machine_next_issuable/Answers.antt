use Rattle.std.proofs.Common.{refl}
use Rattle.uring_ffi.proofs.Found.{said_of_found}
use Rattle.uring_ffi.proofs.cores.machine_exports.wulgach_machine_next_issuable.Goals as goal

pub returns-clause-next : goal.returns-clause-next
returns-clause-next c = said_of_found _ _ _ _ _ _ _ c.next_issuable.ensures.next c.in-Some.is (refl, refl)
