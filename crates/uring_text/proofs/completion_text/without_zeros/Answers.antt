use Rattle.std.proofs.Common.{◌∙◌, arith, rules}
use Rattle.uring_text.proofs.Trimming.{cut_zero, cut_whole}
use Rattle.uring_text.proofs.completion_text.without_zeros.Goals as goal
use Rattle.uring_text.proofs.completion_text.without_zeros.Goals.{then-loop-used-test+else-bytes-used-eq0, else-loop-used-test}

pub loop-used-preserved : goal.loop-used-preserved
loop-used-preserved c = (omega (arith, c.loop-used.invariant.0), cut_zero c.args.bytes.now c.loop-used.used (search rules) c.loop-used.invariant.0 (search rules) ∙ c.loop-used.invariant.1)

pub returns : goal.returns
returns c = cut_whole c.args.bytes.now c.loop-used.used c.loop-used.invariant.0 (elim c.loop-used-test.branch [ then-loop-used-test+else-bytes-used-eq0 w ↦ λ lt e. w.if-bytes-used-eq0.false e | else-loop-used-test w ↦ λ lt e. absurd (omega (arith, w.loop-used-test.false)) ]) ∙ c.loop-used.invariant.1
