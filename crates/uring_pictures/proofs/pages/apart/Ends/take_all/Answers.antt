use Rattle.std.proofs.Common.{false, refl, arith}
use Rattle.std.proofs.lemmas.Bool.{both_ways}
use Rattle.uring_pictures.proofs.pages.apart.Ends.take_all.Goals as goal

pub returns-in_err-kept : goal.returns-in_err-kept
returns-in_err-kept g c = λ sure. absurd (both_ways false refl (c.in_err-kept.ensures.granted 300 (sure 300) (omega arith)))
