use Rattle.std.proofs.Common.{w32, rules}
use Rattle.std.proofs.lemmas.Int.{to_z-of_z}
use Rattle.uring_ffi.proofs.cores.trace_exports.wulgach_trace_setup.Goals as goal

pub returns : goal.returns
returns c =
    let e = c.trace_setup_in.ensures in
    rw (to_z-of_z w32 c.trace_setup_in.result (search rules)) (record { results = e.results; refused = e.refused; no_setup = e.no_setup; told = e.told })
