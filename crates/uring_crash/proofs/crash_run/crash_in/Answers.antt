use Rattle.std.proofs.Common.{ℤ, [], w32, subst, rules}
use Rattle.uring_crash.proofs.Common.{Follows, IfOk-weaker, to_z-of_z}
use Rattle.uring_crash.proofs.crash_run.crash_in.Goals as goal

pub returns-clause-left : goal.returns-clause-left
returns-clause-left g c =
    IfOk-weaker c.leave_all-left.result _ _
    (λ bad left. left c.args.setup.now
    (subst (λ (d : ℤ). Follows c.args.asked.now.unit c.args.setup.now d c.args.asked.now.lines c.in_ok-follower.follower []) (to_z-of_z w32 c.args.asked.now.fd (search rules)) c.in_ok-follower.ensures.follows))
    c.leave_all-left.ensures.left
