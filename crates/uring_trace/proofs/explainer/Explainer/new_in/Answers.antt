use Rattle.std.proofs.Common.{true, false, refl, arith}
use Rattle.uring_trace.proofs.Common.{both_ways, telling_on}
use Rattle.uring_trace.proofs.ExplainLines.{explaining_none}
use Rattle.uring_trace.proofs.explainer.Explainer.new_in.Goals as goal

pub returns-in_err-line-clause-granted : goal.returns-in_err-line-clause-granted
returns-in_err-line-clause-granted g c = λ sure. absurd (both_ways false refl (c.in_err-line.ensures.granted 300 (sure 300) (omega arith)))

pub returns-clause-ok : goal.returns-clause-ok
returns-clause-ok g c = explaining_none (telling_on c.args.setup.now) _ _ c.in_ok-line.ensures.kept c.in_ok-new_in.ensures.setup c.in_ok-new_in.ensures.fits

pub returns-clause-unrefused : goal.returns-clause-unrefused
returns-clause-unrefused g c = explaining_none (record { setup = c.args.setup.now; is_unrefused = true }) _ _ c.in_ok-line.ensures.kept c.in_ok-new_in.ensures.setup c.in_ok-new_in.ensures.fits
