use Rattle.std.proofs.Common.{◌≡◌, arith, rules}
use Rattle.uring_crash.proofs.FollowedLines.{follows_byte, follows_line, follows_passed}
use Rattle.uring_crash.proofs.follower.Follower.take.Goals as goal

pub returns-then-self-eq0-clause-follows : goal.returns-then-self-eq0-clause-follows
returns-then-self-eq0-clause-follows g c = λ unit setup fd most before f. follows_passed unit setup fd most _ _ _ _ before c.args.byte c.if-self-eq0.true f

pub returns-then-byte-ne10-clause-follows : goal.returns-then-byte-ne10-clause-follows
returns-then-byte-ne10-clause-follows g c = λ unit setup fd most before f.
    follows_byte unit setup fd most _ _ _ _ _ before c.args.byte c.if-byte-ne10.true (omega arith) c.push.ensures f

pub returns-clause-follows : goal.returns-clause-follows
returns-clause-follows g c = λ unit setup fd most before f.
    let end : c.args.byte ≡ 10 = search rules in
    rw end (follows_line unit setup fd most _ _ _ _ _ _ _ _ before (omega arith) c.clear.ensures c.in_ok-read_line.ensures.read f)
