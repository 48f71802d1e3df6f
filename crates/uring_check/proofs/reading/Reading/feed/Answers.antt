use Rattle.std.proofs.Common.{◌<◌, length, append_assoc, arith, rules}
use Rattle.uring_check.proofs.Common.{false≢true, take_all, take_more}
use Rattle.uring_check.proofs.Readings.{kept_byte, took_line}
use Rattle.uring_check.proofs.reading.Reading.feed.Goals as goal
use Rattle.uring_check.proofs.reading.Reading.feed.Goals.{then-byte-eq10+in_ok-take_line, else-byte-eq10}

pub loop-byte-preserved : goal.loop-byte-preserved
loop-byte-preserved g c = λ r all before h.
    let so = c.loop-byte.invariant r all before h in
    let lt : c.loop-byte.byte-index < length c.args.bytes.now = search rules in
    rw (take_more c.args.bytes.now c.loop-byte.byte-index 0 lt, ← append_assoc before) (elim c.if-byte-eq10.branch [
      | then-byte-eq10+in_ok-take_line w ↦ rw (w.self-is, w.if-byte-eq10.true, w.clear.ensures) (took_line r all _ _ w.take_line.new.self _ w.in_ok-take_line.ensures.looks so)
      | else-byte-eq10 w ↦ rw w.self-is (kept_byte r all _ _ _ _ _ w.if-byte-eq10.false w.push.ensures so)
    ])

pub returns-in_err-take_line-clause-granted : goal.returns-in_err-take_line-clause-granted
returns-in_err-take_line-clause-granted g c = λ sure r all before h.
    let so = c.loop-byte.invariant r all before h in
    absurd (false≢true (c.in_err-take_line.ensures.granted sure r all so.whole so.looks))

pub returns-clause-ok : goal.returns-clause-ok
returns-clause-ok g c = λ r all before h.
    rw (take_all c.loop-byte.byte-index c.args.bytes.now (omega (arith, c.loop-byte-test.false))) at (c.loop-byte.invariant r all before h)
