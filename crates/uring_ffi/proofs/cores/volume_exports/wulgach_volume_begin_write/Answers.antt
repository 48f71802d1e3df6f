use Rattle.std.proofs.Common.{w32, rules}
use Rattle.std.proofs.lemmas.Int.{to_z-of_z}
use Rattle.uring_ffi.proofs.cores.volume_exports.wulgach_volume_begin_write.Goals as goal

pub returns : goal.returns
returns c =
    let e = c.volume_begin_write_in.ensures in
    rw (to_z-of_z w32 c.volume_begin_write_in.result (search rules)) (record { empty = e.empty; too_far = e.too_far; spent = e.spent; results = e.results; kept = e.kept; made = e.made })
