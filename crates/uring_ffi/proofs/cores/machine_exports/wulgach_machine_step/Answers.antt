use Rattle.std.proofs.Common.{w32, rules}
use Rattle.std.proofs.lemmas.Int.{to_z-of_z}
use Rattle.uring_ffi.proofs.cores.machine_exports.wulgach_machine_step.Goals as goal

pub returns : goal.returns
returns c =
    let e = c.machine_step_in.ensures in
    rw (to_z-of_z w32 c.machine_step_in.result (search rules)) (record { empty = e.empty; no_step = e.no_step; kept = e.kept; made = e.made })
