use Rattle.std.proofs.Common.{w32, rules}
use Rattle.std.proofs.lemmas.Int.{to_z-of_z}
use Rattle.uring_ffi.proofs.cores.crash_machine_exports.wulgach_crash_machine_crash.Goals as goal

pub returns : goal.returns
returns c =
    let e = c.crash_machine_crash_in.ensures in
    rw (to_z-of_z w32 c.crash_machine_crash_in.result (search rules)) (record { empty = e.empty; lost = e.lost; results = e.results; kept = e.kept; refused = e.refused; left = e.left })
