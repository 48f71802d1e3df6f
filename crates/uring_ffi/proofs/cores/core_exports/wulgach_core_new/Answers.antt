use Rattle.std.proofs.Common.{w32, rules}
use Rattle.std.proofs.lemmas.Int.{to_z-of_z}
use Rattle.uring_ffi.proofs.cores.core_exports.wulgach_core_new.Goals as goal

pub returns : goal.returns
returns c =
    let e = c.core_new_in.ensures in
    rw (to_z-of_z w32 c.core_new_in.result (search rules)) (record { refused = e.refused; results = e.results; kept = e.kept; made = e.made })
