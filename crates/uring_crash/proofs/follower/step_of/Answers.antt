use Rattle.std.proofs.Common.{◌≡◌}
use Rattle.std.proofs.lemmas.Result.{IfOk-weaker}
use Rattle.uring_crash.proofs.follower.step_of.Goals as goal

pub returns-in-Some-clause-step : goal.returns-in-Some-clause-step
returns-in-Some-clause-step g c =
    IfOk-weaker c.read_step_in.result _ _
    (λ read told bytes kept.
    let same : c.in-Some.bytes.now ≡ bytes = rw c.in-Some.is at (c.whole.ensures.line bytes kept) in
    rw same at told)
    c.read_step_in.ensures.step
