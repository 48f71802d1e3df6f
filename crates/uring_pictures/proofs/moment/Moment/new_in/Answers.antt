use Rattle.std.proofs.Common.{false, refl, arith}
use Rattle.std.proofs.lemmas.Bool.{both_ways}
use Rattle.uring_pictures.proofs.Moments.{follows_none}
use Rattle.uring_pictures.proofs.moment.Moment.new_in.Goals as goal

pub returns-clause-ok : goal.returns-clause-ok
returns-clause-ok g c =
    (refl, follows_none c.args.at c.args.setup.now c.in_ok-new_in.field-0 c.in_ok-line.line c.in_ok-line.ensures.kept c.in_ok-new_in.ensures.setup c.in_ok-new_in.ensures.keeps)

pub returns-in_err-line-clause-granted : goal.returns-in_err-line-clause-granted
returns-in_err-line-clause-granted g c = λ sure. absurd (both_ways false refl (c.in_err-line.ensures.granted 300 (sure 300) (omega arith)))
