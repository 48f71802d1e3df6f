use Rattle.std.proofs.Common.{false, refl, arith}
use Rattle.std.proofs.lemmas.Bool.{both_ways}
use Rattle.uring_check.proofs.reading.Reading.new.Goals as goal

pub returns-in_err-line-clause-granted : goal.returns-in_err-line-clause-granted
returns-in_err-line-clause-granted g c = λ sure. absurd (both_ways false refl (c.in_err-line.ensures.granted 300 (sure 300) (omega arith)))
