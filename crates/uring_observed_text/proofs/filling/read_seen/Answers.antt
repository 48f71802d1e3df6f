use Rattle.std.proofs.Common.{◌+◌, arith}
use Rattle.std.proofs.lemmas.Bool.{false≢true}
use Rattle.uring_observed_text.proofs.filling.read_seen.Goals as goal

pub returns-in_err-core-clause-granted : goal.returns-in_err-core-clause-granted
returns-in_err-core-clause-granted g c = λ all.
    let s = c.args.setup.now in
    absurd (false≢true (c.in_err-core.ensures.granted (s.sq + s.cq) (all _) (omega arith) (omega arith)))
