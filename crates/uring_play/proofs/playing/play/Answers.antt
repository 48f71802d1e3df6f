use Rattle.std.proofs.Common.{rules}
use Rattle.uring_play.proofs.PlayTexts.{stopped_reading, out_of_memory}
use Rattle.uring_play.proofs.playing.play.Goals as goal

pub returns-in_err-calls : goal.returns-in_err-calls
returns-in_err-calls g c = stopped_reading c.args.setup.now c.args.workers _ c.in_err-calls.field-0.0 _ _ _ (search rules) c.in_err-calls.ensures

pub returns-in-Err : goal.returns-in-Err
returns-in-Err g c =
    out_of_memory c.args.setup.now c.args.workers _ c.in_ok-calls.calls _ _ _ (search rules) c.in_ok-calls.ensures

pub returns-in-Ok : goal.returns-in-Ok
returns-in-Ok g c =
    c.run.ensures c.args.setup.now c.args.workers _ _ c.in-Ok.ensures c.in_ok-calls.ensures
