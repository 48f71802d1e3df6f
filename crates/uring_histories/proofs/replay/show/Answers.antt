use Rattle.std.proofs.lemmas.Result.{on_ok_weaker}
use Rattle.uring_histories.proofs.Arrived.{ended_still}
use Rattle.uring_histories.proofs.replay.show.Goals as goal

pub returns : goal.returns
returns c = λ g calls posted done. on_ok_weaker c.make.result
    (λ m. ended_still g c.args.recording.now c.make.new.self c.args.step.now calls posted c.requires done m)
    (c.make.ensures g done.history done.recorded)
