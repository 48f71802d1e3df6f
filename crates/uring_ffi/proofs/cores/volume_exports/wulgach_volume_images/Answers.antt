use Rattle.std.proofs.Common.{w32, rules}
use Rattle.std.proofs.lemmas.Int.{to_z-of_z}
use Rattle.uring_ffi.proofs.cores.volume_exports.wulgach_volume_images.Goals as goal

pub returns : goal.returns
returns c =
    let e = c.volume_images_in.ensures in
    rw (to_z-of_z w32 c.volume_images_in.result (search rules)) (record { empty = e.empty; results = e.results; kept = e.kept; refused = e.refused; too_many = e.too_many; within = e.within; told = e.told })
