-- The law of what is done with a request that a cancel has found.
use Rattle.std.proofs.Common.{true, false, refl}
use Rattle.std.proofs.lemmas.Bool.{false≢true}
use Rattle.uring_operations.specs.Requests.Cancelling.{MarksAtLast}

pub marks_at_last : MarksAtLast
marks_at_last true = (refl, λ is. (refl, refl))
marks_at_last false = (refl, λ is. absurd (false≢true is))
