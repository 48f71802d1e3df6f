use Rattle.std.proofs.Common.{refl}
use Rattle.uring_ffi.proofs.Found.{said_of_found}
use Rattle.uring_ffi.proofs.cores.machine_exports.wulgach_machine_least.Goals as goal

pub returns-clause-least : goal.returns-clause-least
returns-clause-least c = said_of_found _ _ _ _ _ _ _ c.least.ensures.least c.in-Some.is (refl, refl)
