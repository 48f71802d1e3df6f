use Rattle.std.proofs.Common.{◌+◌, arith}
use Rattle.uring_crash_machine.specs.Logs.{finished_as}
use Rattle.uring_crash_machine.proofs.Noted.{one_noted}
use Rattle.uring_crash_machine.proofs.note.note_finish.Goals as goal

pub loop-place-preserved : goal.loop-place-preserved
loop-place-preserved c =
    one_noted (λ log. finished_as c.args.n c.args.op c.args.answer.now log) c.args.logs.now c.loop-place.logs c.loop-place.place (c.loop-place.place + 1) c.index-logs-place.result c.note_finish.new.self (omega arith) (omega arith) c.loop-place.invariant c.note_finish.ensures.log
