use Rattle.std.proofs.Common.{refl, arith}
use Rattle.uring_outcomes.proofs.SameEndings.{same_by_descriptors}
use Rattle.uring_outcomes.proofs.ending.same_files.Goals as goal

pub returns : goal.returns
returns c = (
  λ done. same_by_descriptors c.args.one.now c.args.other.now c.requires.few c.requires.few_others (λ k low. c.loop-fd.invariant k (omega arith)),
  λ same. refl,
)
