use Rattle.std.proofs.Common.{refl}
use Rattle.uring_ffi.proofs.Found.{said_of_found}
use Rattle.uring_ffi.proofs.cores.core_exports.wulgach_core_nth_issuable.Goals as goal

pub returns-clause-nth : goal.returns-clause-nth
returns-clause-nth c = said_of_found _ _ _ _ _ _ _ c.nth_issuable.ensures.nth c.in-Some.is (refl, refl)
