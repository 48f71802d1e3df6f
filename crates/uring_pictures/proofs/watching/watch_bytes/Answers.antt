use Rattle.std.proofs.Common.{◌<◌, length, append_assoc, arith, rules}
use Rattle.uring_pictures.proofs.Common.{append-nil, take_all, take_more}
use Rattle.uring_pictures.proofs.watching.watch_bytes.Goals as goal

pub loop-byte-init : goal.loop-byte-init
loop-byte-init g c = (λ setup before told noted h. rw (append-nil before) h, λ first before f. rw (append-nil before) f)

pub loop-byte-preserved : goal.loop-byte-preserved
loop-byte-preserved g c =
    let lt : c.loop-byte.byte-index < length c.args.bytes.now = search rules in
    let next = take_more c.args.bytes.now c.loop-byte.byte-index 0 lt in
    (λ setup before told noted h. rw (next, ← append_assoc before) (c.in_ok-watch_byte.ensures.taken setup _ told noted (c.loop-byte.invariant.0 setup before told noted h)), λ first before f. rw (next, ← append_assoc before) (c.in_ok-watch_byte.ensures.followed first _ (c.loop-byte.invariant.1 first before f)))

pub returns-clause-taken : goal.returns-clause-taken
returns-clause-taken g c = λ setup before told noted h.
    rw (take_all c.loop-byte.byte-index c.args.bytes.now (omega (arith, c.loop-byte-test.false))) at (c.loop-byte.invariant.0 setup before told noted h)

pub returns-clause-followed : goal.returns-clause-followed
returns-clause-followed g c = λ first before f.
    rw (take_all c.loop-byte.byte-index c.args.bytes.now (omega (arith, c.loop-byte-test.false))) at (c.loop-byte.invariant.1 first before f)
