use Rattle.std.proofs.Common.{refl, w32, rules}
use Rattle.std.proofs.lemmas.Int.{to_z-of_z}
use Rattle.uring_ffi.proofs.Found.{not_empty}
use Rattle.uring_ffi.proofs.cores.core_request_exports.wulgach_core_end.Goals as goal

pub returns-clause-kept : goal.returns-clause-kept
returns-clause-kept c = not_empty _ _ c.finish-answer.ensures

pub returns-clause-made : goal.returns-clause-made
returns-clause-made c =
    let ended = rw (to_z-of_z w32 c.args.told (search rules)) at c.finish-answer.ensures in
    rw (to_z-of_z w32 c.res.result (search rules)) (λ _. (refl, record { given = c.finish-answer.result; kind_is = c.kind.ensures; res_is = c.res.ensures; made = ended }))
