use Rattle.std.proofs.Common.{refl}
use Rattle.uring_ffi.proofs.Found.{said_of_found}
use Rattle.uring_ffi.proofs.cores.core_exports.wulgach_core_rest.Goals as goal

pub returns-clause-completion : goal.returns-clause-completion
returns-clause-completion c = said_of_found _ _ _ _ _ _ _ c.rest.ensures.completion c.in-Some.is (refl, c.completion_words.ensures)
