use Rattle.std.proofs.Common.{subst, sym}
use Rattle.uring_threads.specs.Report.{AreTogether}
use Rattle.uring_threads.proofs.SameEnds.{together_same}
use Rattle.uring_callers.proofs.plays.ends.Ends.settle.Goals as goal

pub invariant_of-result : goal.invariant_of-result
invariant_of-result g c =
    let back = c.in-Err.ensures in
    let self = c.args.self in
    record {
      together =
          subst (λ app. AreTogether app c.in-Err.ends.kernel c.in-Err.ends.workers.items) (sym back.app) (subst (AreTogether self.app c.in-Err.ends.kernel) (sym back.workers)
          (together_same self.app self.kernel c.in-Err.ends.kernel self.workers.items back.kernel self.together));
    }
