use Rattle.std.proofs.lemmas.Result.{on_ok_weaker}
use Rattle.uring_pictures.proofs.Moments.{line_made, line_passed}
use Rattle.uring_pictures.proofs.moment.Moment.read_line.Goals as goal

pub returns-in-Some-clause-read : goal.returns-in-Some-clause-read
returns-in-Some-clause-read g c =
    on_ok_weaker c.step_in.result (λ made line k. line_made _ _ line c.in-Some.step (rw c.in-Some.is at (c.in_ok-step.ensures.step line k)) made) c.step_in.ensures.made

pub returns-in-None-clause-read : goal.returns-in-None-clause-read
returns-in-None-clause-read g c = λ line k. line_passed c.args.self.now.accepted line (rw c.in-None.is at (c.in_ok-step.ensures.step line k))
