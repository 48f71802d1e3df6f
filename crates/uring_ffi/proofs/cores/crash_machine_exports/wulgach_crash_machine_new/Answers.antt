use Rattle.std.proofs.Common.{w32, rules}
use Rattle.std.proofs.lemmas.Int.{to_z-of_z}
use Rattle.uring_ffi.proofs.cores.crash_machine_exports.wulgach_crash_machine_new.Goals as goal

pub returns : goal.returns
returns c =
    let e = c.crash_machine_on_in.ensures in
    rw (to_z-of_z w32 c.crash_machine_on_in.result (search rules)) (record { refused = e.refused; results = λ done none. e.results done none (λ long. (e.too_long.0 long).1 (search rules)); kept = e.kept; made = e.made })
