use Rattle.std.proofs.Common.{false, refl, arith}
use Rattle.std.proofs.lemmas.Bool.{both_ways}
use Rattle.uring_pictures.proofs.pages.recorder.Recorder.new.Goals as goal

pub returns-in_err-line : goal.returns-in_err-line
returns-in_err-line g c = λ sure. absurd (both_ways false refl (c.in_err-line.ensures.granted 300 (sure 300) (omega arith)))
