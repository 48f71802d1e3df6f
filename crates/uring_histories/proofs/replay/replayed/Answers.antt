use Rattle.uring_histories.proofs.Arrived.{at_start}
use Rattle.uring_histories.proofs.replay.replayed.Goals as goal

pub play-requires-clause-begun : goal.play-requires-clause-begun
play-requires-clause-begun c =
    at_start c.args.setup.now c.in_ok-recording.recording c.in_ok-recording.ensures

pub returns-in-Ok : goal.returns-in-Ok
returns-in-Ok c = rw c.text_of.ensures c.in-Ok.ensures
