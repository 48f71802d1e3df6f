use Rattle.std.proofs.Common.{◌+◌, arith}
use Rattle.uring_crash_machine.proofs.Common.{false≢true, issued_as}
use Rattle.uring_crash_machine.proofs.Noted.{one_noted}
use Rattle.uring_crash_machine.proofs.note.note_issue.Goals as goal

pub loop-place-preserved : goal.loop-place-preserved
loop-place-preserved g c =
    one_noted (λ log. issued_as c.args.n c.args.op c.args.answer.now log) c.args.logs.now c.loop-place.logs c.loop-place.place (c.loop-place.place + 1) c.index-logs-place.result c.note_issue_in.new.self (omega arith) (omega arith) c.loop-place.invariant c.in_ok-note_issue_in.ensures.log

pub returns-in_err-note_issue_in-clause-granted : goal.returns-in_err-note_issue_in-clause-granted
returns-in_err-note_issue_in-clause-granted g c = λ all. absurd (false≢true (c.in_err-note_issue_in.ensures.granted all))
