use Rattle.std.proofs.Common.{w32, rules}
use Rattle.std.proofs.lemmas.Int.{to_z-of_z}
use Rattle.uring_ffi.proofs.cores.whole_call_exports.wulgach_core_submit.Goals as goal

pub returns : goal.returns
returns c =
    let e = c.core_submit_in.ensures in
    rw (to_z-of_z w32 c.core_submit_in.result (search rules)) (record { empty = e.empty; results = e.results; single = e.single; kept = e.kept; made = e.made })
