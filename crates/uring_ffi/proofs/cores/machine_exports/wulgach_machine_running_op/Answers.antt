use Rattle.std.proofs.Common.{refl}
use Rattle.uring_ffi.proofs.Found.{said_of_found}
use Rattle.uring_ffi.proofs.cores.machine_exports.wulgach_machine_running_op.Goals as goal

pub returns-clause-operation : goal.returns-clause-operation
returns-clause-operation c = said_of_found _ _ _ _ _ _ _ c.running_op.ensures.operation c.in-Some.is (refl, c.operation_words.ensures)
