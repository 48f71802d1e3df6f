use Rattle.std.proofs.Common.{Err, ap}
use Rattle.std.proofs.Math.Nat.{le_refl}
use Rattle.uring_observed_text.proofs.sight.followed.Goals as goal

pub returns-in-Err-NoMemory-clause-granted : goal.returns-in-Err-NoMemory-clause-granted
returns-in-Err-NoMemory-clause-granted g c = λ h fits all.
    absurd (c.in-Err-NoMemory.ensures.granted h _ fits (all _) (le_refl _) (ap (λ r. Err r) c.in-Err-NoMemory.field-0-is))
