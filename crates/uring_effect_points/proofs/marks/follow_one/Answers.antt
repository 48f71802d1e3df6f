use Rattle.std.proofs.Common.{Err, ap}
use Rattle.std.proofs.Math.Nat.{le_refl}
use Rattle.std.proofs.lemmas.Bool.{false≢true}
use Rattle.uring_effect_points.proofs.marks.follow_one.Goals as goal

pub returns-in-Ok-clause-called : goal.returns-in-Ok-clause-called
returns-in-Ok-clause-called g c = λ is. c.in-Ok.ensures.ok

pub returns-in-Err-Wrong-clause-called : goal.returns-in-Err-Wrong-clause-called
returns-in-Err-Wrong-clause-called g c = λ is. absurd (false≢true is)

pub returns-in-Err-NoMemory-clause-granted : goal.returns-in-Err-NoMemory-clause-granted
returns-in-Err-NoMemory-clause-granted g c = λ h fits all.
    absurd (c.in-Err-NoMemory.ensures.granted h _ fits (all _) (le_refl _) (ap (λ r. Err r) c.in-Err-NoMemory.field-0-is))
