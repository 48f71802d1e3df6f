use Rattle.std.proofs.Common.{w32, rules}
use Rattle.std.proofs.lemmas.Int.{to_z-of_z}
use Rattle.uring_ffi.proofs.cores.crash_image_exports.wulgach_crash_machine_images.Goals as goal

pub returns : goal.returns
returns c =
    let e = rw (to_z-of_z w32 c.args.fd (search rules)) at c.crash_machine_images_in.ensures in
    rw (to_z-of_z w32 c.crash_machine_images_in.result (search rules)) (record { empty = e.empty; lost = e.lost; no_file = e.no_file; results = e.results; kept = e.kept; refused = e.refused; too_many = e.too_many; within = e.within; told = e.told })
