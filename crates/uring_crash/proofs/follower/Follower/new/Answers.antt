use Rattle.std.proofs.Common.{ℤ, [], w32, subst, rules, arith}
use Rattle.std.proofs.lemmas.Bool.{false≢true}
use Rattle.uring_crash.proofs.Common.{Watches, to_z-of_z}
use Rattle.uring_crash.proofs.FollowedLines.{follows_none}
use Rattle.uring_crash.proofs.follower.Follower.new.Goals as goal

pub returns-clause-follows : goal.returns-clause-follows
returns-clause-follows g c =
    follows_none c.args.unit c.args.setup.now c.args.fd c.args.lines c.in_ok-new.field-0 c.in_ok-line.line c.in_ok-line.ensures.kept
    (subst (λ (d : ℤ). Watches c.args.unit c.args.setup.now d c.in_ok-new.field-0 []) (to_z-of_z w32 c.args.fd (search rules)) c.in_ok-new.ensures.watches)

pub returns-in_err-line-clause-granted : goal.returns-in_err-line-clause-granted
returns-in_err-line-clause-granted g c = λ all. absurd (false≢true (c.in_err-line.ensures.granted 300 (all 300) (omega arith)))
