use Rattle.std.proofs.Common.{arith}
use Rattle.uring_effect_points.proofs.Plain.{same_plain_files}
use Rattle.uring_effect_points.proofs.copies.copied.Goals as goal

pub returns-clause-bytes : goal.returns-clause-bytes
returns-clause-bytes g c =
    let past = c.loop-fd-test.false in
    same_plain_files c.loop-fd.copy c.args.files.now c.args.count c.loop-fd.invariant.count c.requires.count (λ k low. c.loop-fd.invariant.read k (omega (arith, low, past)))
