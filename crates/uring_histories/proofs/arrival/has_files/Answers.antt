use Rattle.std.proofs.Common.{rules, arith}
use Rattle.uring_core.specs.Histories.{world}
use Rattle.uring_histories.proofs.Files.{few_by, same_files}
use Rattle.uring_histories.proofs.arrival.has_files.Goals as goal

pub returns : goal.returns
returns c = λ h fits few so.
    same_files c.args.machine.now.core.setup (world c.args.machine.now.core.setup h) c.args.files.now c.loop-fd.fd few (few_by c.args.files.now (search rules)) (omega arith) (c.loop-fd.invariant h fits)
